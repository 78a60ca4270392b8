-- Reading the lines of the sections one after the other, as a loop does.
use Rattle.std.proofs.Common.{◌≡◌, ℕ, List, [], ◌∷◌, Result, Ok, Err, sym, ap, ◌∙◌}
use Rattle.dr_types.specs.declared.fault.FileFault.{FileFault}
use Rattle.dr_types.specs.declared.fault.FileFault.TheVariants as fault
use Rattle.dr_types.specs.declared.guest.Item.{Item}
use Rattle.dr_types.specs.declared.guest.SlotRow.{SlotRow}
use Rattle.dr_guestfile_lines.specs.declared.lines.Line.{Line}
use Rattle.dr_guestfile.specs.declared.scripts.Sections.{Sections}
use Rattle.dr_guestfile_lines.specs.Input.{Input}
use Rattle.dr_guestfile_lines.specs.Reading.{◌>>=◌, Answers, next_of, line_in}
use Rattle.dr_guestfile.specs.ScriptLines.{section_line, finished, sections_from}

abbrev Scripts : Type 0
Scripts = Result (List (List Item)) FileFault

-- what the lines after the first make of the sections
abbrev after_line : ℕ → List SlotRow → Result Sections FileFault → Input → Scripts
after_line version slots next rest = next >>= λ sections. sections_from version slots sections rest.lines rest.past

step_at : (version : ℕ) (slots : List SlotRow) (sections : Sections) (lines : List Line) (past : ℕ) (line : Line) (rest : Input) → next_of lines past ≡ Ok (line, rest)
    → sections_from version slots sections lines past ≡ after_line version slots (section_line version slots sections line) rest
unfolding sections_from
step_at version slots sections [] past line rest e = absurd cc
step_at version slots sections (first ∷ lines) past line rest e =
    let read : Line × Input = (first, record { lines = lines; past = past }) in
    let found : Line × Input = (line, rest) in
    let same : read ≡ found = cc in
    ap (λ (x : Line × Input). after_line version slots (section_line version slots sections x.0) x.1) same

pub goes_on : (version : ℕ) (slots : List SlotRow) (sections next : Sections) (whole rest : Input) (line : Line) (total : Scripts) → line_in whole ≡ Ok (line, rest) → section_line version slots sections line ≡ Ok next
    → sections_from version slots sections whole.lines whole.past ≡ total → sections_from version slots next rest.lines rest.past ≡ total
goes_on version slots sections next whole rest line total cut e so_far =
    ap (λ (s : Result Sections FileFault). after_line version slots s rest) (sym e) ∙ sym (step_at version slots sections whole.lines whole.past line rest cut) ∙ so_far

pub ends_at : (version : ℕ) (slots : List SlotRow) (sections : Sections) (whole rest : Input) (line : Line) (e : FileFault) (total : Scripts) → line_in whole ≡ Ok (line, rest) → section_line version slots sections line ≡ Err e
    → sections_from version slots sections whole.lines whole.past ≡ total → total ≡ Err e
ends_at version slots sections whole rest line e total cut refused so_far =
    sym so_far ∙ step_at version slots sections whole.lines whole.past line rest cut ∙ ap (λ (s : Result Sections FileFault). after_line version slots s rest) refused

end_at : (version : ℕ) (slots : List SlotRow) (sections : Sections) (lines : List Line) (past : ℕ) (e : FileFault) → next_of lines past ≡ Err e → sections_from version slots sections lines past ≡ finished sections.place sections.done.scripts e
unfolding sections_from
end_at version slots sections [] past e none = let same : fault.Line past ≡ e = cc in ap (finished sections.place sections.done.scripts) same
end_at version slots sections (line ∷ lines) past e none = absurd cc

exact : {X : Type 0} (r read : Result X FileFault) → read ≡ r → Answers r read
exact (Ok x) read same = same
exact (Err e) read same = λ memory. same

pub is_done : (version : ℕ) (slots : List SlotRow) (sections : Sections) (whole : Input) (e : FileFault) (r total : Scripts) → line_in whole ≡ Err e → r ≡ finished sections.place sections.done.scripts e
    → sections_from version slots sections whole.lines whole.past ≡ total → Answers r total
is_done version slots sections whole e r total none answer so_far = exact r total (sym so_far ∙ end_at version slots sections whole.lines whole.past e none ∙ sym answer)
