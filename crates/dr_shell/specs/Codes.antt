-- The exit code of each status.
use Rattle.std.specs.Prelude.{ℕ}
use Rattle.dr_types.specs.declared.status.Status.{Status}
use Rattle.dr_types.specs.declared.status.Status.TheVariants.{Done, Words, GuestFile, JournalText}
use Rattle.dr_types.specs.declared.status.Status.TheVariants.{Unfinished, Outlet, Source, Memory}
use Rattle.dr_types.specs.declared.status.Status.TheVariants.{IllegalJournal, BadStream, TooLong}

abbrev pub code_of : Status → ℕ
code_of Done = 0
code_of Words = 1
code_of (GuestFile why) = 2
code_of (JournalText line) = 2
code_of Unfinished = 3
code_of Outlet = 4
code_of Source = 5
code_of Memory = 6
code_of (IllegalJournal event rule) = 7
code_of (BadStream why) = 8
code_of TooLong = 9

-- where what waited after the call can't be written, the code is that of a failed write, unless
-- nothing was put
abbrev pub code_unwritten : Status → ℕ
code_unwritten Done = 4
code_unwritten Unfinished = 4
code_unwritten Memory = 4
code_unwritten status = code_of status
