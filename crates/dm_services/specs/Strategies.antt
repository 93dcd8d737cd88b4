-- Function 58h of INT 21h: the allocation strategy, and the link with upper memory (MS-DOS Programmer's Reference,
-- function 58h). The order of refusals, and what there is without upper memory in the arena, are this machine's own.
use Rattle.std.specs.Prelude.{◌≡◌, ℕ, ◌+◌, ◌==◌, if◌then◌else◌, Bool, true, false, Option, Some, None, Result, Ok, Err}
use Rattle.dm_space.specs.Memory.{Memory}
use Rattle.dm_cpu.specs.Cpu.{with_byte}
use Rattle.dm_ins.specs.declared.operand.ByteRegister.TheVariants.{Al}
use Rattle.dm_arena.specs.declared.refusal.ArenaRefusal.{ArenaRefusal}
use Rattle.dm_arena.specs.declared.fit.Strategy.{Strategy}
use Rattle.dm_arena.specs.declared.fit.Area.{Area}
use Rattle.dm_arena.specs.declared.fit.Area.TheVariants.{All, Upper, UpperFirst}
use Rattle.dm_arena.specs.declared.fit.Fit.{Fit}
use Rattle.dm_arena.specs.declared.fit.Fit.TheVariants.{First, Best, Last}
use Rattle.dm_arena.specs.Linking.{Links, TellsLinked}
use Rattle.dm_services.specs.state.State.{State, Answer}
use Rattle.dm_services.specs.declared.strategies.StrategyFunction.{StrategyFunction}
use Rattle.dm_services.specs.declared.strategies.StrategyFunction.TheVariants.{TellStrategy, SetStrategy, TellLink, SetLink, Unknown}
use Rattle.dm_services.specs.Allocation.{answered, refused, settled}

-- ---- strategies by their numbers: the fit in the low bits, the area in the high ones

-- the high bits of a strategy's number, by its area: 0, 40h for upper memory alone, 80h for upper memory first
abbrev pub number_of_area : Area → ℕ
number_of_area All = 0
number_of_area Upper = 0x40
number_of_area UpperFirst = 0x80

-- the low bits of a strategy's number, by its fit: first, best or last fit
abbrev pub number_of_fit : Fit → ℕ
number_of_fit First = 0
number_of_fit Best = 1
number_of_fit Last = 2

-- the strategy with a fit and an area
abbrev pub strategy : Fit → Area → Strategy
strategy fit area = record { fit = fit; area = area }

-- the strategy with this number that looks at upper memory, alone (40h to 42h) or first (80h to 82h); None for any
-- other number
abbrev pub upper_strategy_of : ℕ → Option Strategy
upper_strategy_of number =
    if number == 0x40 then Some (strategy First Upper) else
    if number == 0x41 then Some (strategy Best Upper) else
    if number == 0x42 then Some (strategy Last Upper) else
    if number == 0x80 then Some (strategy First UpperFirst) else
    if number == 0x81 then Some (strategy Best UpperFirst) else
    if number == 0x82 then Some (strategy Last UpperFirst) else None

-- the strategy with this number, or None. Those from 40h on are there only if upper memory belongs to the arena
-- (`upper`), linked or not
abbrev pub strategy_of : Bool → ℕ → Option Strategy
strategy_of upper number =
    if number == 0 then Some (strategy First All) else
    if number == 1 then Some (strategy Best All) else
    if number == 2 then Some (strategy Last All) else
    if upper then upper_strategy_of number else None

-- ---- the calls

-- the subfunction of 58h with a number, which calls have in AL
abbrev pub subfunction_of : ℕ → StrategyFunction
subfunction_of number =
    if number == 0 then TellStrategy else
    if number == 1 then SetStrategy else
    if number == 2 then TellLink else
    if number == 3 then SetLink else Unknown

-- 58h fails with error 1 in AX, CF = 1: no such subfunction, or no such value in BX. The strategy and memory stay
abbrev pub no_such_value : State → Answer
no_such_value s = answered s (record s.cpu { ax = 1 }) s.memory true

-- 58h with AL = 0: AX is the strategy's number, CF = 0
abbrev pub strategy_reported : State → Answer
strategy_reported s = answered s (record s.cpu { ax = number_of_area s.strategy.area + number_of_fit s.strategy.fit })
    s.memory false

-- 58h with AL = 1, by the strategy with the number in BX: it becomes the allocation strategy, CF = 0, and AX and memory
-- stay; error 1, and the strategy stays, if there is none
abbrev pub set_to : State → Option Strategy → Answer
set_to s None = no_such_value s
set_to s (Some strategy) = answered (record s { strategy = strategy }) s.cpu s.memory false

-- what 58h with AL = 2 returns: AL is 1 if the block list is linked with upper memory, else 0, and CF = 0; after an
-- error, AX is its code and CF = 1. Memory stays
abbrev pub link_told : State → Result Bool ArenaRefusal → Answer
link_told s (Ok on) = answered s (with_byte s.cpu Al (if on then 1 else 0)) s.memory false
link_told s (Err e) = answered s (refused s.cpu e) s.memory true

-- 58h with AL = 2 if upper memory belongs to the arena: it returns whether the block list in memory is linked with
-- upper memory, or error 7 if there is no valid list
pub record TellingLink (s : State) (x : Answer) : Type 0 where
  pub result : Result Bool ArenaRefusal
  pub tells : TellsLinked s.memory result
  pub answer : x ≡ link_told s result

-- 58h with AL = 2; the first argument is whether upper memory belongs to the arena. If not, it returns AL = 0 and
-- CF = 0, whatever block list memory holds
abbrev pub TellsLink : Bool → State → Answer → Type 0
TellsLink false s x = x ≡ link_told s (Ok false)
TellsLink true s x = TellingLink s x

-- the link state that BX asks for with AL = 3: 0 to unlink, 1 to link. None for any other number, or if upper memory
-- does not belong to the arena
abbrev pub wanted : Bool → ℕ → Option Bool
wanted upper number =
    if upper then (if number == 0 then Some false else if number == 1 then Some true else None) else None

-- 58h with AL = 3 and a good BX: byte 0 of the header before the link block's is written, so that the arena is linked
-- with upper memory (`on`) or unlinked, or memory stays if it already is so; or the call fails with error 7, and memory
-- stays
pub record Linking (on : Bool) (s : State) (x : Answer) : Type 0 where
  pub result : Result (Unit {0}) ArenaRefusal
  pub memory : Memory
  pub links : Links s.memory on result memory
  pub answer : x ≡ settled s result memory

-- 58h with AL = 3, by the link state that BX asks for: error 1, and memory stays, where it is None; else as `Linking`
abbrev pub SetsLink : Option Bool → State → Answer → Type 0
SetsLink None s x = x ≡ no_such_value s
SetsLink (Some on) s x = Linking on s x

-- x is a result that 58h, called from the state s, may have, by the subfunction that AL names
abbrev pub StrategyCalls : State → StrategyFunction → Answer → Type 0
StrategyCalls s TellStrategy x = x ≡ strategy_reported s
StrategyCalls s SetStrategy x = x ≡ set_to s (strategy_of s.upper s.cpu.bx)
StrategyCalls s TellLink x = TellsLink s.upper s x
StrategyCalls s SetLink x = SetsLink (wanted s.upper s.cpu.bx) s x
StrategyCalls s Unknown x = x ≡ no_such_value s
