use Rattle.std.proofs.Common.{◌≤◌, length, ap, sym, subst, ◌∙◌, drop, Ok, Some}
use Rattle.dr_stream_reader.specs.Reading.{IsReading, SaysNext, reading_of}
use Rattle.dr_stream_reader.specs.Records.{size_of}
use Rattle.dr_stream_reader.proofs.Next as next
use Rattle.dr_stream_reader.proofs.reader.StreamReader.pass.Goals as goal

pub left-self-inside-requires : goal.left-self-inside-requires
left-self-inside-requires c =
    subst (λ n. n ≤ length c.self.inside.rest.now) (sym c.size.ensures)
    (next.size_fits (reading_of c.self.inside.bytes.now c.self.inside.rest.now c.self.inside.standing) c.args.next c.self.invariant (subst (λ v. SaysNext v (Ok (Some c.args.next))) (sym c.self.view_is) c.requires))

pub after-self-inside-requires-clause-least : goal.after-self-inside-requires-clause-least
after-self-inside-requires-clause-least c =
    next.least_small (reading_of c.self.inside.bytes.now c.self.inside.rest.now c.self.inside.standing) c.args.next c.self.invariant (subst (λ v. SaysNext v (Ok (Some c.args.next))) (sym c.self.view_is) c.requires)

pub after-self-inside-requires-clause-records : goal.after-self-inside-requires-clause-records
after-self-inside-requires-clause-records c =
    next.records_small (reading_of c.self.inside.bytes.now c.self.inside.rest.now c.self.inside.standing) c.self.invariant

pub invariant_of-self : goal.invariant_of-self
invariant_of-self c =
    subst (λ xs. IsReading (reading_of c.self.inside.bytes.now xs c.after-self-inside.result)) (sym (c.left-self-inside.ensures ∙ ap (λ n. drop n c.self.inside.rest.now) c.size.ensures))
    (subst (λ s. IsReading (reading_of c.self.inside.bytes.now (drop (size_of c.args.next) c.self.inside.rest.now) s)) (sym c.after-self-inside.ensures)
    (next.still_reading (reading_of c.self.inside.bytes.now c.self.inside.rest.now c.self.inside.standing) c.args.next c.self.invariant (subst (λ v. SaysNext v (Ok (Some c.args.next))) (sym c.self.view_is) c.requires)))

pub returns : goal.returns
returns c =
    next.passes c.args.self.now (reading_of c.self.inside.bytes.now c.left-self-inside.result.now c.after-self-inside.result) c.args.next (subst IsReading c.self.view_is c.self.invariant) c.requires
    (ap (λ xs. reading_of c.self.inside.bytes.now xs c.after-self-inside.result) (c.left-self-inside.ensures ∙ ap (λ n. drop n c.self.inside.rest.now) c.size.ensures)
    ∙ ap (λ s. reading_of c.self.inside.bytes.now (drop (size_of c.args.next) c.self.inside.rest.now) s) c.after-self-inside.ensures
    ∙ ap (λ v. next.passed v c.args.next) c.self.view_is)
