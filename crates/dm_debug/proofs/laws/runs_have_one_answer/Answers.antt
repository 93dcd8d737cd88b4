use Rattle.dm_debug.proofs.OneAnswer.{go_once, trace_once}
use Rattle.dm_debug.proofs.laws.runs_have_one_answer.Goals as goal

pub returns : goal.returns
returns c = record { go = go_once; trace = trace_once }
