-- Function 0Ch, by the function that AL names
use Rattle.dm_services.specs.declared.functions.Function.{Function}
use Rattle.dm_services.specs.declared.functions.Function.TheVariants.{EchoCharacter, DirectCharacter, DirectInput, ReadCharacter, ReadLine}
use Rattle.dm_services.specs.state.State.{State, Answer, go, interrupt_returned}
use Rattle.dm_services.specs.Characters.{with_al, echo_character, direct_character, read_character}
use Rattle.dm_services.specs.Lines.{read_line}
use Rattle.dm_services.specs.Functions.{read_by}

-- what holds of each function that reads the console, and of the return with AL = 0, holds of 0Ch for each function
pub by_function : (P : (State → Answer) → Type 0) → P echo_character → P direct_character → P read_character →
    P read_line → P (λ s. go (interrupt_returned (with_al s 0))) → (f : Function) → P (read_by f)
by_function P echo direct read line other EchoCharacter = echo
by_function P echo direct read line other DirectCharacter = direct
by_function P echo direct read line other DirectInput = read
by_function P echo direct read line other ReadCharacter = read
by_function P echo direct read line other ReadLine = line
by_function P echo direct read line other _ = other
