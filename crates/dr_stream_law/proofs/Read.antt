-- Bytes are read as a header, records and a rest in one way only.
use Rattle.std.proofs.Common.{◌≡◌, ℕ, ◌^◌, ◌<◌, ◌≤◌, List, [], ◌∷◌, ◌++◌, length, take, drop, reverse, get_or, refl, ap, sym, subst, ◌∙◌, arith, append_assoc, append-nil}
use Rattle.std.specs.Int.{w32, from_le_bytes}
use Rattle.std.proofs.lemmas.Nat.{from_le_bytes-to_le_bytes_4}
use Rattle.std.proofs.lemmas.List.{reverse-reverse}
use Rattle.std.proofs.lemmas.Grind.{reverse_onto}
use Rattle.dr_history.specs.Lookback.{count}
use Rattle.dr_history.specs.Parts.{Part, Header, Round, Page, Zeros, End, word, header, round_record, page_record, zeros_record, end_record, part_bytes, parts_bytes, has_pages}
use Rattle.dr_stream_law.specs.Grammar.{MayStand, AreParts, Begins}
use Rattle.dr_stream_law.specs.Loading.{loaded_image, LoadsOnce}
use Rattle.dr_stream_law.proofs.Records.{Fits, stands_fits}

-- the rest begins with no record that may stand there
abbrev pub Stuck : ℕ → ℕ → List Part → List ℕ → Type 0
Stuck version pages parts rest = (part : Part) (tail : List ℕ) → MayStand version pages part parts → rest ≡ part_bytes part ++ tail → ⊥

first_cell : (xs ys : List ℕ) → xs ≡ ys → get_or xs 0 0 ≡ get_or ys 0 0
first_cell xs ys h = ap (λ zs. get_or zs 0 0) h

-- an end is no record that may stand there
pub end_stuck : (version pages n : ℕ) (parts : List Part) → Stuck version pages parts (end_record n)
unfolding round_record page_record zeros_record end_record
end_stuck version pages n parts (Header v m) tail may is = may
end_stuck version pages n parts (Round r) tail may is = let k : 3 ≡ 1 = first_cell (end_record n) (part_bytes (Round r) ++ tail) is in absurd (omega (arith, k))
end_stuck version pages n parts (Page page bytes) tail may is = let k : 3 ≡ 2 = first_cell (end_record n) (part_bytes (Page page bytes) ++ tail) is in absurd (omega (arith, k))
end_stuck version pages n parts (Zeros first m) tail may is = let k : 3 ≡ 4 = first_cell (end_record n) (part_bytes (Zeros first m) ++ tail) is in absurd (omega (arith, k))
end_stuck version pages n parts (End m) tail may is = may

-- a word gives its number, and what follows it
first_word : (n m : ℕ) (xs ys : List ℕ) → n < 2 ^ 32 → m < 2 ^ 32 → word n ++ xs ≡ word m ++ ys → (n ≡ m) × (xs ≡ ys)
first_word n m xs ys ln lm h =
    let w : word n ≡ word m = ap (take 4) h in
    (sym (from_le_bytes-to_le_bytes_4 n ln) ∙ ap (from_le_bytes w32) w ∙ from_le_bytes-to_le_bytes_4 m lm, ap (drop 4) h)

-- as many bytes give themselves, and what follows them
first_bytes : (old new xs ys : List ℕ) → length old ≡ length new → old ++ xs ≡ new ++ ys → (old ≡ new) × (xs ≡ ys)
first_bytes [] [] xs ys l h = (refl, h)
first_bytes [] (b ∷ bs) xs ys l h = absurd (omega (arith, l))
first_bytes (a ∷ olds) [] xs ys l h = absurd (omega (arith, l))
first_bytes (a ∷ olds) (b ∷ news) xs ys l h =
    let head : a ≡ b = cc in
    let tail : olds ++ xs ≡ news ++ ys = cc in
    let rest = first_bytes olds news xs ys (omega (arith, l)) tail in
    let body : olds ≡ news = rest.0 in
    (cc, rest.1)

-- a record gives itself, and what follows it
first_part : (p q : Part) (xs ys : List ℕ) → Fits p → Fits q → part_bytes p ++ xs ≡ part_bytes q ++ ys → (p ≡ q) × (xs ≡ ys)
unfolding round_record page_record zeros_record
first_part (Header v n) q xs ys f g h = absurd f
first_part (End n) q xs ys f g h = absurd f
first_part (Round r) (Round s) xs ys f g h =
    let both = first_word r s xs ys f g (ap (drop 4) h) in (ap Round both.0, both.1)
first_part (Page p bytes) (Page q others) xs ys f g h =
    let both = first_word p q (bytes ++ xs) (others ++ ys) f.0 g.0 (ap (drop 4) h) in
    let rest = first_bytes bytes others xs ys (f.1 ∙ sym g.1) both.1 in
    let head : p ≡ q = both.0 in
    let body : bytes ≡ others = rest.0 in
    (cc, rest.1)
first_part (Zeros p n) (Zeros q m) xs ys f g h =
    let both = first_word p q (word n ++ xs) (word m ++ ys) f.0 g.0 (ap (drop 4) h) in
    let rest = first_word n m xs ys f.1 g.1 both.1 in
    let head : p ≡ q = both.0 in
    let body : n ≡ m = rest.0 in
    (cc, rest.1)
first_part (Round r) (Header v n) xs ys f g h = absurd g
first_part (Round r) (Page q others) xs ys f g h = let k : 1 ≡ 2 = first_cell _ _ h in absurd (omega (arith, k))
first_part (Round r) (Zeros q m) xs ys f g h = let k : 1 ≡ 4 = first_cell _ _ h in absurd (omega (arith, k))
first_part (Round r) (End n) xs ys f g h = absurd g
first_part (Page p bytes) (Header v n) xs ys f g h = absurd g
first_part (Page p bytes) (Round s) xs ys f g h = let k : 2 ≡ 1 = first_cell _ _ h in absurd (omega (arith, k))
first_part (Page p bytes) (Zeros q m) xs ys f g h = let k : 2 ≡ 4 = first_cell _ _ h in absurd (omega (arith, k))
first_part (Page p bytes) (End n) xs ys f g h = absurd g
first_part (Zeros p n) (Header v m) xs ys f g h = absurd g
first_part (Zeros p n) (Round s) xs ys f g h = let k : 4 ≡ 1 = first_cell _ _ h in absurd (omega (arith, k))
first_part (Zeros p n) (Page q others) xs ys f g h = let k : 4 ≡ 2 = first_cell _ _ h in absurd (omega (arith, k))
first_part (Zeros p n) (End m) xs ys f g h = absurd g

-- the bytes of records that are given with the first one first
abbrev front : List Part → List ℕ
front [] = []
front (part ∷ later) = part_bytes part ++ front later

-- these records, the first one first, after others
abbrev onto : List Part → List Part → List Part
onto done [] = done
onto done (part ∷ later) = onto (part ∷ done) later

abbrev AreNext : ℕ → ℕ → List Part → List Part → Type 0
AreNext version pages done [] = Unit {0}
AreNext version pages done (part ∷ later) = MayStand version pages part done × AreNext version pages (part ∷ done) later

-- two lists of records after the same ones, each with a stuck rest
once : (version pages : ℕ) (done ps qs : List Part) (x y : List ℕ) → pages ≤ 16384 → AreNext version pages done ps → AreNext version pages done qs → Stuck version pages (onto done ps) x → Stuck version pages (onto done qs) y → front ps ++ x ≡ front qs ++ y → (ps ≡ qs) × (x ≡ y)
once version pages done [] [] x y few a b s t h = (refl, h)
once version pages done [] (q ∷ qs) x y few a b s t h = absurd (s q (front qs ++ y) b.0 (h ∙ append_assoc (part_bytes q) (front qs) y))
once version pages done (p ∷ ps) [] x y few a b s t h = absurd (t p (front ps ++ x) a.0 (sym h ∙ append_assoc (part_bytes p) (front ps) x))
once version pages done (p ∷ ps) (q ∷ qs) x y few a b s t h =
    let both = first_part p q (front ps ++ x) (front qs ++ y) (stands_fits version pages p done few a.0) (stands_fits version pages q done few b.0)
    (sym (append_assoc (part_bytes p) (front ps) x) ∙ h ∙ append_assoc (part_bytes q) (front qs) y) in
    let same : q ≡ p = sym both.0 in
    let more = once version pages (p ∷ done) ps qs x y few a.1 (subst (λ (r : Part). AreNext version pages (r ∷ done) qs) same b.1) s
    (subst (λ (r : Part). Stuck version pages (onto (r ∷ done) qs) y) same t) both.1 in
    let rest : ps ≡ qs = more.0 in
    let head : p ≡ q = both.0 in
    (cc, more.1)

-- the same with the last record first
front_more : (parts : List Part) (part : Part) → front (parts ++ part ∷ []) ≡ front parts ++ part_bytes part
front_more [] part = append-nil (part_bytes part)
front_more (first ∷ parts) part =
    ap (λ xs. part_bytes first ++ xs) (front_more parts part) ∙ sym (append_assoc (part_bytes first) (front parts) (part_bytes part))

front_is : (parts : List Part) → parts_bytes parts ≡ front (reverse parts)
front_is [] = refl
front_is (part ∷ earlier) =
    ap (λ xs. xs ++ part_bytes part) (front_is earlier) ∙ sym (front_more (reverse earlier) part) ∙ ap front (sym (reverse_onto earlier part []))

onto_more : (done ps : List Part) (part : Part) → onto done (ps ++ part ∷ []) ≡ part ∷ onto done ps
onto_more done [] part = refl
onto_more done (p ∷ ps) part = onto_more (p ∷ done) ps part

onto_reverse : (parts : List Part) → onto [] (reverse parts) ≡ parts
onto_reverse [] = refl
onto_reverse (part ∷ earlier) = ap (onto []) (reverse_onto earlier part []) ∙ onto_more [] (reverse earlier) part ∙ ap (λ ps. part ∷ ps) (onto_reverse earlier)

next_more : (version pages : ℕ) (done ps : List Part) (part : Part) → AreNext version pages done ps → MayStand version pages part (onto done ps) → AreNext version pages done (ps ++ part ∷ [])
next_more version pages done [] part are may = (may, tt)
next_more version pages done (p ∷ ps) part are may = (are.0, next_more version pages (p ∷ done) ps part are.1 may)

next_reverse : (version pages : ℕ) (parts : List Part) → AreParts version pages parts → AreNext version pages [] (reverse parts)
next_reverse version pages [] are = tt
next_reverse version pages (part ∷ earlier) are =
    subst (AreNext version pages []) (sym (reverse_onto earlier part []))
    (next_more version pages [] (reverse earlier) part (next_reverse version pages earlier are.1) (subst (λ (ps : List Part). MayStand version pages part ps) (sym (onto_reverse earlier)) are.0))

-- the same reading of bytes up to a stuck rest
pub record Same (v w p q : ℕ) (ps qs : List Part) (x y : List ℕ) : Type 0 where
  pub version : v ≡ w
  pub pages : p ≡ q
  pub parts : ps ≡ qs
  pub rest : x ≡ y

headers_same : (v w p q : ℕ) (xs ys : List ℕ) → v ≤ 2 → w ≤ 2 → p ≤ 16384 → q ≤ 16384 → header v p ++ xs ≡ header w q ++ ys → (v ≡ w) × (p ≡ q) × (xs ≡ ys)
unfolding header
headers_same v w p q xs ys fv fw fp fq h =
    let lv : v < 2 ^ 32 = omega arith in
    let lw : w < 2 ^ 32 = omega arith in
    let lp : p < 2 ^ 32 = omega arith in
    let lq : q < 2 ^ 32 = omega arith in
    let versions = first_word v w (word p ++ xs) (word q ++ ys) lv lw (ap (drop 8) h) in
    let counts = first_word p q xs ys lp lq versions.1 in
    (versions.0, counts.0, counts.1)

pub same_reading : (bytes : List ℕ) (v w p q : ℕ) (ps qs : List Part) (x y : List ℕ) → Begins bytes v p ps x → Begins bytes w q qs y → Stuck v p ps x → Stuck w q qs y → Same v w p q ps qs x y
same_reading bytes v w p q ps qs x y a b s t =
    let heads = headers_same v w p q (parts_bytes ps ++ x) (parts_bytes qs ++ y) a.known b.known a.few b.few
    (sym (append_assoc (header v p) (parts_bytes ps) x) ∙ sym a.bytes_are ∙ b.bytes_are ∙ append_assoc (header w q) (parts_bytes qs) y) in
    let version : w ≡ v = sym heads.0 in
    let pages : q ≡ p = sym heads.1 in
    let theirs : AreParts v p qs = subst (λ (n : ℕ). AreParts n p qs) version (subst (λ (n : ℕ). AreParts w n qs) pages b.in_place) in
    let stuck : Stuck v p qs y = subst (λ (n : ℕ). Stuck n p qs y) version (subst (λ (n : ℕ). Stuck w n qs y) pages t) in
    let both = once v p [] (reverse ps) (reverse qs) x y a.few (next_reverse v p ps a.in_place) (next_reverse v p qs theirs)
    (subst (λ (zs : List Part). Stuck v p zs x) (sym (onto_reverse ps)) s)
    (subst (λ (zs : List Part). Stuck v p zs y) (sym (onto_reverse qs)) stuck)
    (ap (λ zs. zs ++ x) (sym (front_is ps)) ∙ heads.2 ∙ ap (λ zs. zs ++ y) (front_is qs)) in
    record {
      version = heads.0;
      pages = heads.1;
      parts = sym (reverse-reverse ps) ∙ ap reverse both.0 ∙ reverse-reverse qs;
      rest = both.1;
    }

pub loads_once : (bytes : List ℕ) → LoadsOnce bytes
loads_once bytes a b n m s t =
    let same = same_reading bytes s.version t.version s.pages t.pages s.parts t.parts (end_record (count has_pages s.parts)) (end_record (count has_pages t.parts)) s.begins t.begins
    (end_stuck s.version s.pages (count has_pages s.parts) s.parts) (end_stuck t.version t.pages (count has_pages t.parts) t.parts) in (
      s.image_is ∙ ap (λ p. loaded_image p s.parts) same.pages ∙ ap (λ ps. loaded_image t.pages ps) same.parts ∙ sym t.image_is,
      s.counted ∙ ap (count has_pages) same.parts ∙ sym t.counted,
    )
