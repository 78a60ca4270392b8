use Rattle.std.proofs.Common.{Err, ap, ◌∙◌}
use Rattle.dr_command_io.proofs.Reading.{some_part, too_long, took_few, took_many}
use Rattle.dr_command_io.proofs.input.read_whole.Goals as goal

pub returns-in-Err-Failed-clause-takes : goal.returns-in-Err-Failed-clause-takes
returns-in-Err-Failed-clause-takes g c =
    took_few c.args.limit _ _ c.read_all.result _ _ c.read_all.ensures (c.in-Err-Failed.is ∙ ap (λ e. Err e) c.in-Err-Failed.field-0-is)

pub returns-in-Err-TooLong-clause-takes : goal.returns-in-Err-TooLong-clause-takes
returns-in-Err-TooLong-clause-takes g c =
    took_many c.args.limit _ _ c.read_all.result _ _ c.read_all.ensures (c.in-Err-TooLong.is ∙ ap (λ e. Err e) c.in-Err-TooLong.field-0-is)

pub returns-in-Err-TooLong-clause-unread : goal.returns-in-Err-TooLong-clause-unread
returns-in-Err-TooLong-clause-unread g c =
    too_long c.args.limit _ _ c.read_all.result _ _ c.read_all.ensures (c.in-Err-TooLong.is ∙ ap (λ e. Err e) c.in-Err-TooLong.field-0-is)

pub returns-in-Err-Memory-clause-takes : goal.returns-in-Err-Memory-clause-takes
returns-in-Err-Memory-clause-takes g c =
    some_part c.args.limit _ _ c.read_all.result _ _ c.in-Err-Memory.field-0 c.read_all.ensures c.in-Err-Memory.is
