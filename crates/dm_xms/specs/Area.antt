-- The high memory area (XMS 3.0, functions 01h and 02h), which one program at a time can take.
use Rattle.std.specs.Prelude.{true, false, if◌then◌else◌, Result, Ok, Err}
use Rattle.dm_xms.specs.declared.status.Status.{Status}
use Rattle.dm_xms.specs.declared.status.Status.TheVariants.{AreaTaken, AreaNotTaken}
use Rattle.dm_xms.specs.Tables.{Tables}

-- 01h: the high memory area is taken; an error if it is already
unfoldable pub take_area : Tables → Result (Unit {0} × Tables) Status
take_area xms = if xms.area then Err AreaTaken else Ok (tt, record xms { area = true })

-- 02h: the high memory area is released; an error if it is not taken
unfoldable pub release_area : Tables → Result (Unit {0} × Tables) Status
release_area xms = if xms.area then Ok (tt, record xms { area = false }) else Err AreaNotTaken
