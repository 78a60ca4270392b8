-- Sections that were read are scripts of a guest.
use Rattle.std.proofs.Common.{◌≡◌, ℕ, ◌+◌, ◌*◌, ◌≤◌, ◌<◌, Option, Some, Ok, List, [], ◌∷◌, ◌++◌, length, sym, subst, arith}
use Rattle.std.specs.Prelude.{nat_le, nat_lt}
use Rattle.std.specs.Option.{ok_or}
use Rattle.std.proofs.lemmas.Bool.{leb-true, ltb-true}
use Rattle.dr_types.specs.declared.fault.FileFault.{FileFault}
use Rattle.dr_types.specs.declared.fault.FileFault.TheVariants as fault
use Rattle.dr_types.specs.declared.fault.What.TheVariants as what
use Rattle.dr_types.specs.declared.guest.SlotRow.{SlotRow}
use Rattle.dr_types.specs.declared.guest.Item.{Item}
use Rattle.dr_types.specs.declared.guest.Item.TheVariants.{Rep}
use Rattle.dr_types.specs.Scripts.{op_count}
use Rattle.dr_types.specs.Validity.{AreScripts}
use Rattle.dr_guestfile.specs.declared.keyword.Keyword.{Keyword}
use Rattle.dr_guestfile.specs.declared.keyword.Keyword.TheVariants as keyword
use Rattle.dr_guestfile_lines.specs.declared.lines.Line.{Line}
use Rattle.dr_guestfile.specs.declared.scripts.Done.{Done}
use Rattle.dr_guestfile.specs.declared.scripts.Repeat.{Repeat}
use Rattle.dr_guestfile.specs.declared.scripts.Place.{Place}
use Rattle.dr_guestfile.specs.declared.scripts.Place.TheVariants as place
use Rattle.dr_guestfile.specs.declared.scripts.Sections.{Sections}
use Rattle.dr_guestfile.specs.Keywords.{first_keyword}
use Rattle.dr_guestfile.specs.OpLines.{op_of, op_of_body}
use Rattle.dr_guestfile_lines.specs.Reading.{◌>>=◌, check, number_of}
use Rattle.dr_guestfile.specs.ScriptLines.{is_empty, counted, after_op, line_between, line_of_script, line_of_repeat, end_of_repeat, line_at_place, section_line, finished, sections_from, no_sections}
use Rattle.dr_guestfile.proofs.SectionState.{AreSections}
use Rattle.dr_guestfile_lines.specs.Words.{one_word, words_after}
use Rattle.dr_guestfile.proofs.OpsValid.{op_valid, body_op_valid}
use Rattle.dr_guestfile.proofs.ReadingParts.{steps, passed, number_range}
use Rattle.dr_guestfile.proofs.SectionParts.{after_op_valid, end_valid, body_valid}

abbrev at : Done → Place → Sections
at done place = record { done = done; place = place }

abbrev with_ops : Done → ℕ → Done
with_ops done ops = record { scripts = done.scripts; ops = ops }

record IsSum (sum ops more : ℕ) : Type 0 where
  is : sum ≡ ops + more
  few : sum ≤ 200000

sum_valid : (ops more line sum : ℕ) → counted ops more line ≡ Ok sum → IsSum sum ops more
unfolding counted
sum_valid ops more line sum e =
    let few = steps (check (nat_le (ops + more) 200000) (fault.TooLarge what.Ops line)) _ _ e in
    let same : ops + more ≡ sum = cc few.next in
    let small : ops + more ≤ 200000 = leb-true _ _ (passed _ _ _ few.is) in
    record { is = sym same; few = omega (arith, same, small) }

begin_valid : (slots : List SlotRow) (done : Done) (first : Option Keyword) (arguments : List (List ℕ)) (line : ℕ) (next : Sections) → AreSections slots (at done place.Between)
    → line_between done first arguments line ≡ Ok next → AreSections slots next
unfolding line_between
begin_valid slots done (Some keyword.Vcpu) [] line next are e =
    let few = steps (check (nat_lt (length done.scripts) 32) (fault.TooLarge what.Vcpus line)) _ _ e in
    let same : at done (place.Script []) ≡ next = cc few.next in
    subst (AreSections slots) same (record {
      done = record { scripts = are.done.scripts; vcpus = are.done.vcpus; counted = are.done.counted; few = are.done.few };
      place = (ltb-true _ _ (passed _ _ _ few.is), tt);
    })
begin_valid slots done first arguments line next are e = absurd cc

op_line_valid : (version : ℕ) (slots : List SlotRow) (done : Done) (script : List Item) (first : Option Keyword) (arguments : List (List ℕ)) (line : ℕ) (next : Sections) → AreSections slots (at done (place.Script script))
    → (op_of version slots first arguments line >>= λ op. counted done.ops 1 line >>= λ ops. Ok (after_op (record { scripts = done.scripts; ops = ops }) script op)) ≡ Ok next → AreSections slots next
op_line_valid version slots done script first arguments line next are e =
    let op = steps (op_of version slots first arguments line) _ _ e in
    let ops = steps (counted done.ops 1 line) _ _ op.next in
    let sum = sum_valid done.ops 1 line ops.value ops.is in
    let same : after_op (with_ops done ops.value) script op.value ≡ next = cc ops.next in
    subst (AreSections slots) same (after_op_valid slots done ops.value script op.value are sum.is sum.few (op_valid version slots first arguments line op.value op.is))

script_valid : (version : ℕ) (slots : List SlotRow) (done : Done) (script : List Item) (first : Option Keyword) (arguments : List (List ℕ)) (line : ℕ) (next : Sections) → AreSections slots (at done (place.Script script))
    → line_of_script version slots done script first arguments line ≡ Ok next → AreSections slots next
unfolding line_of_script
script_valid version slots done script (Some keyword.Rep) arguments line next are e =
    let word = steps (ok_or (one_word arguments) (fault.Line line)) _ _ e in
    let times = steps (number_of 1 200000 word.value line) _ _ word.next in
    let range = number_range 1 200000 word.value line times.value times.is in
    let same : at done (place.Repeat (record { script = script; times = times.value; body = [] })) ≡ next = cc times.next in
    subst (AreSections slots) same (record {
      done = record { scripts = are.done.scripts; vcpus = are.done.vcpus; counted = are.done.counted; few = are.done.few };
      place = (are.place.0, record { script = are.place.1; some = range.0; few = range.1; body = tt });
    })
script_valid version slots done script first arguments line next are e = op_line_valid version slots done script first arguments line next are e

body_line_valid : (version : ℕ) (slots : List SlotRow) (done : Done) (part : Repeat) (first : Option Keyword) (arguments : List (List ℕ)) (line : ℕ) (next : Sections) → AreSections slots (at done (place.Repeat part))
    → (op_of_body version slots first arguments line >>= λ op. Ok (at done (place.Repeat (record part { body = part.body ++ op ∷ [] })))) ≡ Ok next → AreSections slots next
body_line_valid version slots done part first arguments line next are e =
    let op = steps (op_of_body version slots first arguments line) _ _ e in
    let same : at done (place.Repeat (record part { body = part.body ++ op.value ∷ [] })) ≡ next = cc op.next in
    subst (AreSections slots) same (body_valid slots done part op.value are (body_op_valid version slots first arguments line op.value op.is))

repeat_valid : (version : ℕ) (slots : List SlotRow) (done : Done) (part : Repeat) (first : Option Keyword) (arguments : List (List ℕ)) (line : ℕ) (next : Sections) → AreSections slots (at done (place.Repeat part))
    → line_of_repeat version slots done part first arguments line ≡ Ok next → AreSections slots next
unfolding line_of_repeat end_of_repeat
repeat_valid version slots done part (Some keyword.End) arguments line next are e =
    let alone = steps (check (is_empty arguments) (fault.Line line)) _ _ e in
    let some = steps (check (nat_lt 0 (length part.body)) (fault.Line line)) _ _ alone.next in
    let ops = steps (counted done.ops (part.times * length part.body) line) _ _ some.next in
    let sum = sum_valid done.ops (part.times * length part.body) line ops.value ops.is in
    let same : at (with_ops done ops.value) (place.Script (part.script ++ Rep part.times part.body ∷ [])) ≡ next = cc ops.next in
    let one : 0 < length part.body = ltb-true _ _ (passed _ _ _ some.is) in
    subst (AreSections slots) same (end_valid slots done ops.value part are sum.is sum.few (omega (arith, one)))
repeat_valid version slots done part first arguments line next are e = body_line_valid version slots done part first arguments line next are e

place_valid : (version : ℕ) (slots : List SlotRow) (done : Done) (place : Place) (first : Option Keyword) (arguments : List (List ℕ)) (line : ℕ) (next : Sections) → AreSections slots (at done place)
    → line_at_place version slots done place first arguments line ≡ Ok next → AreSections slots next
place_valid version slots done place.Between first arguments line next are e = begin_valid slots done first arguments line next are e
place_valid version slots done (place.Script script) first arguments line next are e = script_valid version slots done script first arguments line next are e
place_valid version slots done (place.Repeat part) first arguments line next are e = repeat_valid version slots done part first arguments line next are e

-- the scripts of a guest
pub record AreRead (slots : List SlotRow) (all : List (List Item)) : Type 0 where
  pub some : 1 ≤ length all
  pub few : length all ≤ 32
  pub scripts : AreScripts slots all
  pub ops : op_count all ≤ 200000

end_of_input : (slots : List SlotRow) (scripts : List (List Item)) (ops : ℕ) (place : Place) (missing : FileFault) (all : List (List Item)) → AreSections slots (at (record { scripts = scripts; ops = ops }) place)
    → finished place scripts missing ≡ Ok all → AreRead slots all
end_of_input slots [] ops place.Between missing all are e = absurd cc
end_of_input slots (script ∷ scripts) ops place.Between missing all are e =
    let same : script ∷ scripts ≡ all = cc in
    subst (AreRead slots) same (record { some = omega arith; few = are.done.vcpus; scripts = are.done.scripts; ops = omega (arith, are.done.counted, are.done.few) })
end_of_input slots scripts ops (place.Script script) missing all are e = absurd cc
end_of_input slots scripts ops (place.Repeat part) missing all are e = absurd cc

pub sections_valid : (version : ℕ) (slots : List SlotRow) (sections : Sections) (lines : List Line) (past : ℕ) (scripts : List (List Item)) → AreSections slots sections → sections_from version slots sections lines past ≡ Ok scripts → AreRead slots scripts
unfolding sections_from
sections_valid version slots sections [] past scripts are e = end_of_input slots sections.done.scripts sections.done.ops sections.place (fault.Line past) scripts are e
sections_valid version slots sections (line ∷ lines) past scripts are e =
    let next = steps (section_line version slots sections line) _ _ e in
    sections_valid version slots next.value lines past scripts
    (place_valid version slots sections.done sections.place (first_keyword line.words) (words_after line.words) line.number next.value are next.is) next.next

pub none_read : (slots : List SlotRow) → AreSections slots no_sections
none_read slots = record { done = record { scripts = tt; vcpus = omega arith; counted = omega arith; few = omega arith }; place = tt }
