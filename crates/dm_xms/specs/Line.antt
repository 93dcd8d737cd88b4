-- Address line A20 (XMS 3.0, functions 03h to 07h): it is on while the global switch is on or the local count is at
-- least 1.
use Rattle.std.specs.Prelude.{ℕ, ◌+◌, ◌-◌, Bool, true, false, not, ◌||◌, ◌==◌, if◌then◌else◌, Result, Ok, Err}
use Rattle.dm_space.specs.Memory.{with_a20}
use Rattle.dm_xms.specs.declared.status.Status.{Status}
use Rattle.dm_xms.specs.declared.status.Status.TheVariants.{LineError, LineStillOn}
use Rattle.dm_xms.specs.Tables.{Extended}

-- whether line A20 is on, by the global switch and the local count
abbrev pub is_on : Bool → ℕ → Bool
is_on global local = global || not (local == 0)

-- the state with this global switch and local count, and A20 on or off as they say; the other tables, RAM, windows and
-- blocks stay
abbrev pub switched : Extended → Bool → ℕ → Extended
switched x global local = record {
  xms = record x.xms { global = global; local = local };
  memory = with_a20 x.memory (is_on global local);
}

-- 03h: the global switch is turned on, and so is A20
unfoldable pub enable_globally : Extended → Extended
enable_globally x = switched x true x.xms.local

-- 04h: the global switch is turned off, and A20 too if the local count is 0; else an error, though the switch is off
unfoldable pub disable_globally : Extended → (Result (Unit {0}) Status × Extended)
disable_globally x = (if x.xms.local == 0 then Ok tt else Err LineStillOn, switched x false x.xms.local)

-- 05h: the local count goes up by one, and A20 is on; an error at FFFFh, and nothing changes
unfoldable pub enable_locally : Extended → Result (Unit {0} × Extended) Status
enable_locally x = if x.xms.local == 0xFFFF then Err LineError else Ok (tt, switched x x.xms.global (x.xms.local + 1))

-- 06h: the local count goes down by one, and A20 is off if the count is then 0 and the global switch is off; else an
-- error, though the count has changed. At 0 an error, and nothing changes
unfoldable pub disable_locally : Extended → (Result (Unit {0}) Status × Extended)
disable_locally x =
    if x.xms.local == 0 then (Err LineError, x) else
    (if is_on x.xms.global (x.xms.local - 1) then Err LineStillOn else Ok tt, switched x x.xms.global (x.xms.local - 1))
