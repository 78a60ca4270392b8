-- Bytes have one first fault at most, and none where they are a stream.
use Rattle.std.proofs.Common.{◌≡◌, ℕ, ◌≤◌, List, length, Some, None, ap, sym, ◌∙◌, arith, inl, inr}
use Rattle.dr_types.specs.declared.fault.StreamFault.{StreamFault}
use Rattle.dr_history.specs.Lookback.{count}
use Rattle.dr_history.specs.Parts.{Part, end_record, has_pages}
use Rattle.dr_stream_law.specs.Faults.{record_fault, FaultOnce, FaultOrStream}
use Rattle.dr_stream_law.proofs.Records.{stands_fits}
use Rattle.dr_stream_law.proofs.Read.{Stuck, Same, same_reading, end_stuck}
use Rattle.dr_stream_law.proofs.Faultless.{good_record, good_end, begun_header}
use Rattle.dr_stream_law.proofs.Few.{few_records}

some_none : (f : StreamFault) → Some f ≡ None → ⊥
some_none f h = cc

broken_stuck : (version pages len : ℕ) (parts : List Part) (rest : List ℕ) (f : StreamFault) → pages ≤ 16384 → record_fault version pages parts len rest ≡ Some f → Stuck version pages parts rest
broken_stuck version pages len parts rest f few breaks part tail may is =
    some_none f (sym breaks ∙ ap (record_fault version pages parts len) is ∙ good_record version pages len part parts tail (stands_fits version pages part parts few may) may)

same_some : (a b : StreamFault) → Some a ≡ Some b → a ≡ b
same_some a b h = cc

same_fault : (len v w p q : ℕ) (ps qs : List Part) (x y : List ℕ) (a b : StreamFault) → Same v w p q ps qs x y → record_fault v p ps len x ≡ Some a → record_fault w q qs len y ≡ Some b → a ≡ b
same_fault len v w p q ps qs x y a b same one two =
    same_some a b (sym one ∙ ap (λ n. record_fault n p ps len x) same.version ∙ ap (λ n. record_fault w n ps len x) same.pages ∙ ap (λ zs. record_fault w q zs len x) same.parts ∙ ap (λ zs. record_fault w q qs len zs) same.rest ∙ two)

pub fault_once : FaultOnce
fault_once bytes a b (inl h) (inl g) = same_some a b (sym h ∙ g)
fault_once bytes a b (inl h) (inr g) = absurd (some_none a (sym h ∙ begun_header bytes g.version g.pages g.parts g.rest g.begins))
fault_once bytes a b (inr h) (inl g) = absurd (some_none b (sym g ∙ begun_header bytes h.version h.pages h.parts h.rest h.begins))
fault_once bytes a b (inr h) (inr g) =
    same_fault (length bytes) h.version g.version h.pages g.pages h.parts g.parts h.rest g.rest a b
    (same_reading bytes h.version g.version h.pages g.pages h.parts g.parts h.rest g.rest h.begins g.begins
    (broken_stuck h.version h.pages (length bytes) h.parts h.rest a h.begins.few h.breaks)
    (broken_stuck g.version g.pages (length bytes) g.parts g.rest b g.begins.few g.breaks))
    h.breaks g.breaks

whole_end : (version pages len : ℕ) (parts : List Part) (few : count has_pages parts ≤ 1064960) → record_fault version pages parts len (end_record (count has_pages parts)) ≡ None
whole_end version pages len parts few = good_end version pages len parts (omega (arith, few))

pub fault_or_stream : FaultOrStream
fault_or_stream bytes f image records (inl h) whole = some_none f (sym h ∙ begun_header bytes whole.version whole.pages whole.parts (end_record (count has_pages whole.parts)) whole.begins)
fault_or_stream bytes f image records (inr h) whole =
    let v : ℕ = whole.version in
    let p : ℕ = whole.pages in
    let parts : List Part = whole.parts in
    let end : List ℕ = end_record (count has_pages whole.parts) in
    let same = same_reading bytes h.version v h.pages p h.parts parts h.rest end h.begins whole.begins
    (broken_stuck h.version h.pages (length bytes) h.parts h.rest f h.begins.few h.breaks) (end_stuck v p (count has_pages parts) parts) in
    some_none f (sym h.breaks
    ∙ ap (λ n. record_fault n h.pages h.parts (length bytes) h.rest) same.version ∙ ap (λ n. record_fault v n h.parts (length bytes) h.rest) same.pages
    ∙ ap (λ zs. record_fault v p zs (length bytes) h.rest) same.parts ∙ ap (record_fault v p parts (length bytes)) same.rest
    ∙ whole_end v p (length bytes) parts (few_records v p parts whole.begins.few whole.begins.in_place))
