use Rattle.dr_seat_law.proofs.Seating.{seat_counts, seat_at}
use Rattle.dr_seat_law.proofs.pushed_are_entries.Goals as goal

pub returns-clause-count : goal.returns-clause-count
returns-clause-count c = seat_counts

pub returns-clause-entries : goal.returns-clause-entries
returns-clause-entries c = seat_at
