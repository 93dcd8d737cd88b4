use Rattle.dm_cli.proofs.messages.print_fault.Goals as goal

pub returns-in-CannotRead : goal.returns-in-CannotRead
returns-in-CannotRead g c = rw c.in-CannotRead.is (rw c.as_bytes.ensures.value at c.print_each.ensures)

pub returns-in-CannotWrite : goal.returns-in-CannotWrite
returns-in-CannotWrite g c = rw c.in-CannotWrite.is (rw c.as_bytes-in-CannotWrite.ensures.value at
    c.print_each-in-CannotWrite.ensures)

pub returns-in-NotFound : goal.returns-in-NotFound
returns-in-NotFound g c = rw c.in-NotFound.is c.print.ensures

pub returns-in-BadFormat : goal.returns-in-BadFormat
returns-in-BadFormat g c = rw c.in-BadFormat.is c.print-in-BadFormat.ensures

pub returns-in-TooLarge : goal.returns-in-TooLarge
returns-in-TooLarge g c = rw c.in-TooLarge.is c.print-in-TooLarge.ensures

pub returns-in-TailTooLong : goal.returns-in-TailTooLong
returns-in-TailTooLong g c = rw c.in-TailTooLong.is c.print-in-TailTooLong.ensures

pub returns-in-NameTooLong : goal.returns-in-NameTooLong
returns-in-NameTooLong g c = rw c.in-NameTooLong.is c.print-in-NameTooLong.ensures

pub returns-in-NameTwice : goal.returns-in-NameTwice
returns-in-NameTwice g c = rw c.in-NameTwice.is c.print-in-NameTwice.ensures

pub returns-in-InputTooLong : goal.returns-in-InputTooLong
returns-in-InputTooLong g c = rw c.in-InputTooLong.is c.print-in-InputTooLong.ensures

pub returns-in-TooLong : goal.returns-in-TooLong
returns-in-TooLong g c = rw c.in-TooLong.is c.print-in-TooLong.ensures

pub returns-in-OutOfMemory : goal.returns-in-OutOfMemory
returns-in-OutOfMemory g c = rw c.in-OutOfMemory.is c.print-in-OutOfMemory.ensures
