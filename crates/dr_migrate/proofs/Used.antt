-- The lemmas that a function uses by name, where they are many.
use Rattle.dr_migrate.proofs.Running.{drive_begins, drive_continues, drive_ends, drive_cut, drive_times, drive_rises}

pub ruleset for_drive = (drive_begins, drive_continues, drive_ends, drive_cut, drive_times, drive_rises)
