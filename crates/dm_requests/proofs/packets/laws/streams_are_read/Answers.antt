use Rattle.dm_requests.proofs.packets.Framing.{frame_read}
use Rattle.dm_requests.proofs.packets.Streaming.{stream_read}
use Rattle.dm_requests.proofs.packets.laws.streams_are_read.Goals as goal

pub returns-clause-streams : goal.returns-clause-streams
returns-clause-streams c = stream_read

pub returns-clause-frames : goal.returns-clause-frames
returns-clause-frames c = frame_read
