-- The vCPU sections of a guest.
use Rattle.std.specs.Prelude.{ℕ, ◌+◌, ◌*◌, nat_le, nat_lt, Bool, true, false, List, [], ◌∷◌, ◌++◌}
use Rattle.std.specs.Prelude.{length, Option, Some, Result, Ok, Err}
use Rattle.std.specs.Option.{ok_or}
use Rattle.dr_types.specs.declared.fault.FileFault.{FileFault}
use Rattle.dr_types.specs.declared.fault.FileFault.TheVariants as fault
use Rattle.dr_types.specs.declared.fault.What.TheVariants as what
use Rattle.dr_types.specs.declared.guest.SlotRow.{SlotRow}
use Rattle.dr_types.specs.declared.guest.Op.{Op}
use Rattle.dr_types.specs.declared.guest.Op.TheVariants.{Halt}
use Rattle.dr_types.specs.declared.guest.Item.{Item}
use Rattle.dr_types.specs.declared.guest.Item.TheVariants.{One, Rep}
use Rattle.dr_guestfile.specs.declared.keyword.Keyword.{Keyword}
use Rattle.dr_guestfile.specs.declared.keyword.Keyword.TheVariants as keyword
use Rattle.dr_guestfile_lines.specs.declared.lines.Line.{Line}
use Rattle.dr_guestfile.specs.declared.scripts.Done.{Done}
use Rattle.dr_guestfile.specs.declared.scripts.Repeat.{Repeat}
use Rattle.dr_guestfile.specs.declared.scripts.Place.{Place}
use Rattle.dr_guestfile.specs.declared.scripts.Place.TheVariants as place
use Rattle.dr_guestfile.specs.declared.scripts.Sections.{Sections}
use Rattle.dr_guestfile_lines.specs.Input.{Input}
use Rattle.dr_guestfile.specs.Keywords.{first_keyword}
use Rattle.dr_guestfile.specs.OpLines.{op_of, op_of_body}
use Rattle.dr_guestfile_lines.specs.Reading.{◌>>=◌, check, number_of}
use Rattle.dr_guestfile_lines.specs.Words.{one_word, words_after}

-- a list of nothing
abbrev pub is_empty : {X : Type 0} → List X → Bool
is_empty [] = true
is_empty (x ∷ xs) = false

-- the expanded ops so far, with so many more
unfoldable pub counted : ℕ → ℕ → ℕ → Result ℕ FileFault
counted ops more line = do
  few ← check (nat_le (ops + more) 200000) (fault.TooLarge what.Ops line)
  Ok (ops + more)

-- a line between two sections: `vcpu` begins one
unfoldable pub line_between : Done → Option Keyword → List (List ℕ) → ℕ
    → Result Sections FileFault
line_between done (Some keyword.Vcpu) [] line = do
  few ← check (nat_lt (length done.scripts) 32) (fault.TooLarge what.Vcpus line)
  Ok (record { done = done; place = place.Script [] })
line_between done _ _ line = Err (fault.Line line)

-- an op ends its section, or goes on with it
abbrev pub after_op : Done → List Item → Op → Sections
after_op done script Halt = record {
  done = record { scripts = done.scripts ++ (script ++ One Halt ∷ []) ∷ []; ops = done.ops };
  place = place.Between;
}
after_op done script op = record { done = done; place = place.Script (script ++ One op ∷ []) }

-- a line of a script: `rep` begins a repeated part, and others are ops
unfoldable pub line_of_script :
    ℕ → List SlotRow → Done → List Item → Option Keyword → List (List ℕ) → ℕ
    → Result Sections FileFault
line_of_script version slots done script (Some keyword.Rep) arguments line = do
  word ← ok_or (one_word arguments) (fault.Line line)
  times ← number_of 1 200000 word line
  Ok (record {
    done = done;
    place = place.Repeat (record { script = script; times = times; body = [] });
  })
line_of_script version slots done script first arguments line = do
  op ← op_of version slots first arguments line
  ops ← counted done.ops 1 line
  Ok (after_op (record { scripts = done.scripts; ops = ops }) script op)

-- a script goes on after a repeated part
abbrev pub after_repeat : Done → Repeat → Sections
after_repeat done part =
    record { done = done; place = place.Script (part.script ++ Rep part.times part.body ∷ []) }

-- `end` ends a repeated part
unfoldable pub end_of_repeat : Done → Repeat → List (List ℕ) → ℕ → Result Sections FileFault
end_of_repeat done part arguments line = do
  alone ← check (is_empty arguments) (fault.Line line)
  some ← check (nat_lt 0 (length part.body)) (fault.Line line)
  ops ← counted done.ops (part.times * length part.body) line
  Ok (after_repeat (record { scripts = done.scripts; ops = ops }) part)

-- a line of a repeated part: `end` ends it, and others are ops
unfoldable pub line_of_repeat :
    ℕ → List SlotRow → Done → Repeat → Option Keyword → List (List ℕ) → ℕ
    → Result Sections FileFault
line_of_repeat version slots done part (Some keyword.End) arguments line =
    end_of_repeat done part arguments line
line_of_repeat version slots done part first arguments line = do
  op ← op_of_body version slots first arguments line
  Ok (record { done = done; place = place.Repeat (record part { body = part.body ++ op ∷ [] }) })

-- a line at its place
abbrev pub line_at_place :
    ℕ → List SlotRow → Done → Place → Option Keyword → List (List ℕ) → ℕ
    → Result Sections FileFault
line_at_place version slots done place.Between first arguments line =
    line_between done first arguments line
line_at_place version slots done (place.Script script) first arguments line =
    line_of_script version slots done script first arguments line
line_at_place version slots done (place.Repeat part) first arguments line =
    line_of_repeat version slots done part first arguments line

-- the sections after one more line
abbrev pub section_line : ℕ → List SlotRow → Sections → Line → Result Sections FileFault
section_line version slots sections line =
    line_at_place version slots sections.done sections.place
    (first_keyword line.words) (words_after line.words) line.number

-- the scripts, where the last section has its `halt` and there is one, or else this fault
abbrev pub finished : Place → List (List Item) → FileFault → Result (List (List Item)) FileFault
finished place.Between [] missing = Err missing
finished place.Between (script ∷ scripts) missing = Ok (script ∷ scripts)
finished (place.Script script) scripts missing = Err missing
finished (place.Repeat part) scripts missing = Err missing

-- what these lines make of the sections so far
unfoldable pub sections_from : ℕ → List SlotRow → Sections → List Line → ℕ
    → Result (List (List Item)) FileFault
sections_from version slots sections [] past =
    finished sections.place sections.done.scripts (fault.Line past)
sections_from version slots sections (line ∷ lines) past =
    section_line version slots sections line >>= λ next. sections_from version slots next lines past

-- nothing is read of the sections
abbrev pub no_sections : Sections
no_sections = record { done = record { scripts = []; ops = 0 }; place = place.Between }

-- one section or more, up to the end
abbrev pub scripts_in : ℕ → List SlotRow → Input → Result (List (List Item)) FileFault
scripts_in version slots input = sections_from version slots no_sections input.lines input.past
