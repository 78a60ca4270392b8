-- Sections that were written are read again.
use Rattle.std.proofs.Common.{◌≡◌, ℕ, ◌+◌, ◌*◌, ◌≤◌, ◌<◌, true, List, [], ◌∷◌, ◌++◌, length, map, Ok, refl, sym, ap, subst, ◌∙◌, arith, length-append, append_assoc}
use Rattle.std.specs.Prelude.{nat_le, nat_lt, codes}
use Rattle.std.specs.List.{flat_map}
use Rattle.std.proofs.lemmas.Bool.{le-leb, lt-ltb}
use Rattle.std.proofs.lemmas.List.{append-nil}
use Rattle.std.proofs.lemmas.List.Concat.{flat_map-cons}
use Rattle.std.proofs.lemmas.Grind.{flat_map-append}
use Rattle.dr_types.specs.declared.guest.SlotRow.{SlotRow}
use Rattle.dr_types.specs.declared.guest.Op.{Op}
use Rattle.dr_types.specs.declared.guest.Op.TheVariants.{Halt}
use Rattle.dr_types.specs.declared.guest.Item.{Item}
use Rattle.dr_types.specs.declared.guest.Item.TheVariants.{One, Rep}
use Rattle.dr_types.specs.Scripts.{written_out, expanded, op_count}
use Rattle.dr_types.specs.Validity.{IsOp, AreOps, IsItem, AreItems, IsScript, AreScripts}
use Rattle.dr_guestfile.specs.declared.scripts.Place.TheVariants as place
use Rattle.dr_guestfile.specs.declared.scripts.Sections.{Sections}
use Rattle.dr_guestfile.specs.OpLines.{op_of_body}
use Rattle.dr_guestfile.specs.ScriptLines.{counted, line_between, line_of_script, line_of_repeat, end_of_repeat, section_line, sections_from}
use Rattle.dr_types.specs.GuestText.{op_line, item_lines, script_lines}
use Rattle.dr_types.specs.Lines.{named}
use Rattle.dr_guestfile_law.proofs.Again.{number_again}
use Rattle.dr_guestfile_law.proofs.Lexing.{numbered}
use Rattle.dr_guestfile_law.proofs.OpsAgain.{HasSpaces, op_again, halt_again}
use Rattle.dr_guestfile.proofs.SectionParts.{length_repeated, expanded-append, expanded-one}

abbrev between : List (List Item) → ℕ → Sections
between scripts ops = record { done = record { scripts = scripts; ops = ops }; place = place.Between }

abbrev within : List (List Item) → ℕ → List Item → Sections
within scripts ops script = record { done = record { scripts = scripts; ops = ops }; place = place.Script script }

abbrev repeating : List (List Item) → ℕ → List Item → ℕ → List Op → Sections
repeating scripts ops script times body = record { done = record { scripts = scripts; ops = ops }; place = place.Repeat (record { script = script; times = times; body = body }) }

counted_again : (ops more line : ℕ) → ops + more ≤ 200000 → counted ops more line ≡ Ok (ops + more)
unfolding counted
counted_again ops more line few = let test : nat_le (ops + more) 200000 ≡ true = le-leb _ _ few in rw test refl

module _ (version : ℕ) (slots : List SlotRow) (has : HasSpaces version slots) where
  -- these lines lead from one state to another, whatever follows
  pub record Leads (start : Sections) (lines : List (List (List ℕ))) (end : Sections) : Type 0 where
    pub lead : (line : ℕ) (more : List (List (List ℕ))) (past : ℕ) → sections_from version slots start (numbered line (lines ++ more)) past ≡ sections_from version slots end (numbered (line + length lines) more) past

  nothing : (s : Sections) → Leads s [] s
  nothing s = record { lead = λ line more past. ap (λ (n : ℕ). sections_from version slots s (numbered n more) past) (omega arith) }

  one : (s t : Sections) (words : List (List ℕ)) → ((line : ℕ) → section_line version slots s (record { number = line; words = words }) ≡ Ok t) → Leads s (words ∷ []) t
  unfolding sections_from
  one s t words reads = record { lead = λ line more past. let e = reads line in rw e refl }

  then : (s t u : Sections) (first later : List (List (List ℕ))) → Leads s first t → Leads t later u → Leads s (first ++ later) u
  then s t u first later a b = record {
    lead = λ line more past.
        ap (λ (lines : List (List (List ℕ))). sections_from version slots s (numbered line lines) past) (append_assoc first later more)
        ∙ a.lead line (later ++ more) past ∙ b.lead (line + length first) more past
        ∙ ap (λ (n : ℕ). sections_from version slots u (numbered n more) past) (omega (arith, length-append first later));
  }

  begins : (scripts : List (List Item)) (ops line : ℕ) → length scripts < 32 → section_line version slots (between scripts ops) (record { number = line; words = codes "vcpu" ∷ [] }) ≡ Ok (within scripts ops [])
  unfolding line_between
  begins scripts ops line few = let test : nat_lt (length scripts) 32 ≡ true = lt-ltb _ _ few in rw test refl

  op_in_script : (scripts : List (List Item)) (ops : ℕ) (script : List Item) (op : Op) (line : ℕ) → IsOp slots op → ops + 1 ≤ 200000
      → section_line version slots (within scripts ops script) (record { number = line; words = op_line op }) ≡ Ok (within scripts (ops + 1) (script ++ One op ∷ []))
  unfolding line_of_script
  op_in_script scripts ops script Halt line is few = absurd is
  op_in_script scripts ops script op line is few = rw (op_again version slots op line has is, counted_again ops 1 line few) refl

  halts : (scripts : List (List Item)) (ops : ℕ) (script : List Item) (line : ℕ) → ops + 1 ≤ 200000
      → section_line version slots (within scripts ops script) (record { number = line; words = op_line Halt }) ≡ Ok (between (scripts ++ (script ++ One Halt ∷ []) ∷ []) (ops + 1))
  unfolding line_of_script
  halts scripts ops script line few = rw (halt_again version slots line, counted_again ops 1 line few) refl

  repeats : (scripts : List (List Item)) (ops : ℕ) (script : List Item) (times line : ℕ) → 1 ≤ times → times ≤ 200000
      → section_line version slots (within scripts ops script) (record { number = line; words = named (codes "rep") times }) ≡ Ok (repeating scripts ops script times [])
  unfolding line_of_script
  repeats scripts ops script times line some few = rw (number_again 1 200000 times line some few (omega (arith, few))) refl

  op_in_repeat : (scripts : List (List Item)) (ops : ℕ) (script : List Item) (times : ℕ) (body : List Op) (op : Op) (line : ℕ) → IsOp slots op
      → section_line version slots (repeating scripts ops script times body) (record { number = line; words = op_line op }) ≡ Ok (repeating scripts ops script times (body ++ op ∷ []))
  unfolding line_of_repeat op_of_body
  op_in_repeat scripts ops script times body Halt line is = absurd is
  op_in_repeat scripts ops script times body op line is = rw (op_again version slots op line has is) refl

  ends : (scripts : List (List Item)) (ops : ℕ) (script : List Item) (times : ℕ) (body : List Op) (line : ℕ) → 1 ≤ length body → ops + times * length body ≤ 200000
      → section_line version slots (repeating scripts ops script times body) (record { number = line; words = codes "end" ∷ [] }) ≡ Ok (within scripts (ops + times * length body) (script ++ Rep times body ∷ []))
  unfolding line_of_repeat end_of_repeat
  ends scripts ops script times body line some few =
      let test : nat_lt 0 (length body) ≡ true = lt-ltb _ _ (omega (arith, some)) in
      rw (test, counted_again ops (times * length body) line few) refl

  body_again : (scripts : List (List Item)) (ops : ℕ) (script : List Item) (times : ℕ) (body more : List Op) → AreOps slots more
      → Leads (repeating scripts ops script times body) (map op_line more) (repeating scripts ops script times (body ++ more))
  body_again scripts ops script times body [] are =
      subst (λ (whole : List Op). Leads (repeating scripts ops script times body) [] (repeating scripts ops script times whole)) (sym (append-nil body)) (nothing (repeating scripts ops script times body))
  body_again scripts ops script times body (op ∷ more) are =
      let next : List Op = body ++ op ∷ [] in
      let whole = then (repeating scripts ops script times body) (repeating scripts ops script times next) (repeating scripts ops script times (next ++ more)) (op_line op ∷ []) (map op_line more)
      (one (repeating scripts ops script times body) (repeating scripts ops script times next) (op_line op) (λ line. op_in_repeat scripts ops script times body op line are.0))
      (body_again scripts ops script times next more are.1) in
      subst (λ (ops_so_far : List Op). Leads (repeating scripts ops script times body) (map op_line (op ∷ more)) (repeating scripts ops script times ops_so_far)) (append_assoc body (op ∷ []) more) whole

  item_again : (scripts : List (List Item)) (ops after : ℕ) (script : List Item) (item : Item) → IsItem slots item → after ≡ ops + length (written_out item) → after ≤ 200000
      → Leads (within scripts ops script) (item_lines item) (within scripts after (script ++ item ∷ []))
  item_again scripts ops after script (One op) is sum few =
      let e : after ≡ ops + 1 = omega (arith, sum) in
      subst (λ (n : ℕ). Leads (within scripts ops script) (item_lines (One op)) (within scripts n (script ++ One op ∷ []))) (sym e)
      (one (within scripts ops script) (within scripts (ops + 1) (script ++ One op ∷ [])) (op_line op) (λ line. op_in_script scripts ops script op line is (omega (arith, few))))
  item_again scripts ops after script (Rep times body) is sum few =
      let e : after ≡ ops + times * length body = omega (arith, sum, length_repeated times body) in
      let last : Sections = within scripts (ops + times * length body) (script ++ Rep times body ∷ []) in
      let tail = then (repeating scripts ops script times []) (repeating scripts ops script times body) last (map op_line body) ((codes "end" ∷ []) ∷ [])
      (body_again scripts ops script times [] body is.3)
      (one (repeating scripts ops script times body) last (codes "end" ∷ []) (λ line. ends scripts ops script times body line is.2 (omega (arith, few, e)))) in
      let whole = then (within scripts ops script) (repeating scripts ops script times []) last (named (codes "rep") times ∷ []) (map op_line body ++ (codes "end" ∷ []) ∷ [])
      (one (within scripts ops script) (repeating scripts ops script times []) (named (codes "rep") times) (λ line. repeats scripts ops script times line is.0 is.1)) tail in
      subst (λ (n : ℕ). Leads (within scripts ops script) (item_lines (Rep times body)) (within scripts n (script ++ Rep times body ∷ []))) (sym e) whole

  items_again : (scripts : List (List Item)) (ops after : ℕ) (script items : List Item) → AreItems slots items → after ≡ ops + length (expanded items) → after ≤ 200000
      → Leads (within scripts ops script) (flat_map item_lines items) (within scripts after (script ++ items))
  items_again scripts ops after script [] are sum few =
      let e : after ≡ ops = omega (arith, sum) in
      subst (λ (n : ℕ). Leads (within scripts ops script) [] (within scripts n (script ++ []))) (sym e)
      (subst (λ (whole : List Item). Leads (within scripts ops script) [] (within scripts ops whole)) (sym (append-nil script)) (nothing (within scripts ops script)))
  items_again scripts ops after script (item ∷ items) are sum few =
      let count : length (expanded (item ∷ items)) ≡ length (written_out item) + length (expanded items) = ap length (flat_map-cons written_out item items) ∙ length-append (written_out item) (expanded items) in
      let middle : ℕ = ops + length (written_out item) in
      let next : List Item = script ++ item ∷ [] in
      let whole = then (within scripts ops script) (within scripts middle next) (within scripts after (next ++ items)) (item_lines item) (flat_map item_lines items)
      (item_again scripts ops middle script item are.0 refl (omega (arith, sum, few, count)))
      (items_again scripts middle after next items are.1 (omega (arith, sum, count)) few) in
      subst (λ (lines : List (List (List ℕ))). Leads (within scripts ops script) lines (within scripts after (script ++ item ∷ items))) (sym (flat_map-cons item_lines item items))
      (subst (λ (all : List Item). Leads (within scripts ops script) (item_lines item ++ flat_map item_lines items) (within scripts after all)) (append_assoc script (item ∷ []) items) whole)

  script_again : (scripts : List (List Item)) (ops after : ℕ) (script : List Item) → length scripts < 32 → IsScript slots script → after ≡ ops + length (expanded script) → after ≤ 200000
      → Leads (between scripts ops) (script_lines script) (between (scripts ++ script ∷ []) after)
  script_again scripts ops after script room is sum few =
      let items : List Item = is.items in
      let count : length (expanded script) ≡ length (expanded items) + 1 = ap (λ (s : List Item). length (expanded s)) is.ends ∙ expanded-append items (One Halt ∷ []) ∙ omega (arith, expanded-one (One Halt)) in
      let middle : ℕ = ops + length (expanded items) in
      let last : Sections = between (scripts ++ (items ++ One Halt ∷ []) ∷ []) (middle + 1) in
      let lines : flat_map item_lines script ≡ flat_map item_lines items ++ op_line Halt ∷ [] =
      ap (flat_map item_lines) is.ends ∙ flat_map-append item_lines items (One Halt ∷ [])
      ∙ ap (λ (more : List (List (List ℕ))). flat_map item_lines items ++ more) (flat_map-cons item_lines (One Halt) []) in
      let tail = then (within scripts ops []) (within scripts middle items) last (flat_map item_lines items) (op_line Halt ∷ [])
      (items_again scripts ops middle [] items is.valid refl (omega (arith, sum, few, count)))
      (one (within scripts middle items) last (op_line Halt) (λ line. halts scripts middle items line (omega (arith, sum, few, count)))) in
      let whole = then (between scripts ops) (within scripts ops []) last ((codes "vcpu" ∷ []) ∷ []) (flat_map item_lines items ++ op_line Halt ∷ [])
      (one (between scripts ops) (within scripts ops []) (codes "vcpu" ∷ []) (λ line. begins scripts ops line room)) tail in
      let e : middle + 1 ≡ after = omega (arith, sum, count) in
      subst (λ (all : List (List (List ℕ))). Leads (between scripts ops) ((codes "vcpu" ∷ []) ∷ all) (between (scripts ++ script ∷ []) after)) (sym lines)
      (subst (λ (s : List Item). Leads (between scripts ops) ((codes "vcpu" ∷ []) ∷ (flat_map item_lines items ++ op_line Halt ∷ [])) (between (scripts ++ s ∷ []) after)) (sym is.ends)
      (subst (λ (n : ℕ). Leads (between scripts ops) ((codes "vcpu" ∷ []) ∷ (flat_map item_lines items ++ op_line Halt ∷ [])) (between (scripts ++ (items ++ One Halt ∷ []) ∷ []) n)) e whole))

  pub scripts_again : (earlier : List (List Item)) (ops after : ℕ) (scripts : List (List Item)) → length earlier + length scripts ≤ 32 → AreScripts slots scripts → after ≡ ops + op_count scripts → after ≤ 200000
      → Leads (between earlier ops) (flat_map script_lines scripts) (between (earlier ++ scripts) after)
  scripts_again earlier ops after [] room are sum few =
      let e : ops ≡ after = omega (arith, sum) in
      subst (λ (n : ℕ). Leads (between earlier ops) [] (between (earlier ++ []) n)) e
      (subst (λ (whole : List (List Item)). Leads (between earlier ops) [] (between whole ops)) (sym (append-nil earlier)) (nothing (between earlier ops)))
  scripts_again earlier ops after (script ∷ scripts) room are sum few =
      let middle : ℕ = ops + length (expanded script) in
      let next : List (List Item) = earlier ++ script ∷ [] in
      let whole = then (between earlier ops) (between next middle) (between (next ++ scripts) after) (script_lines script) (flat_map script_lines scripts)
      (script_again earlier ops middle script (omega (arith, room)) are.0 refl (omega (arith, sum, few)))
      (scripts_again next middle after scripts (omega (arith, room, length-append earlier (script ∷ []))) are.1 (omega (arith, sum)) few) in
      subst (λ (lines : List (List (List ℕ))). Leads (between earlier ops) lines (between (earlier ++ script ∷ scripts) after)) (sym (flat_map-cons script_lines script scripts))
      (subst (λ (all : List (List Item)). Leads (between earlier ops) (script_lines script ++ flat_map script_lines scripts) (between all after)) (append_assoc earlier (script ∷ []) scripts) whole)

  all_done : (scripts : List (List Item)) (ops past : ℕ) → 1 ≤ length scripts → sections_from version slots (between scripts ops) [] past ≡ Ok scripts
  unfolding sections_from
  all_done [] ops past some = absurd (omega (arith, some))
  all_done (script ∷ scripts) ops past some = refl

  -- the sections of a guest, up to the end
  pub sections_again : (scripts : List (List Item)) (line past : ℕ) → 1 ≤ length scripts → length scripts ≤ 32 → AreScripts slots scripts → op_count scripts ≤ 200000
      → sections_from version slots (between [] 0) (numbered line (flat_map script_lines scripts)) past ≡ Ok scripts
  sections_again scripts line past some few are ops =
      ap (λ (lines : List (List (List ℕ))). sections_from version slots (between [] 0) (numbered line lines) past) (sym (append-nil (flat_map script_lines scripts)))
      ∙ (scripts_again [] 0 (op_count scripts) scripts (omega (arith, few)) are (omega arith) ops).lead line [] past
      ∙ all_done scripts (op_count scripts) past some
