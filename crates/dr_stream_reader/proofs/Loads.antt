-- What is loaded of a stream, record by record.
use Rattle.std.proofs.Common.{◌≡◌, ℕ, zero, suc, ◌+◌, ◌*◌, ◌<◌, ◌≤◌, Bool, true, false, cond, List, [], ◌∷◌, ◌++◌, length, take, drop, map, replicate, refl, ap, sym, subst, ◌∙◌, arith, inl, inr, Some, None, Option, append-nil, add-one, ◌^◌}
use Rattle.std.specs.Prelude.{Result, Ok, Err, IfErr, ◌==◌, ◌&&◌, nat_le, nat_lt}
use Rattle.std.specs.List.{concat}
use Rattle.std.proofs.lemmas.Bool.{eq-eqb, ne_eqb, leb-true, ltb-true, and_parts}
use Rattle.std.proofs.lemmas.Bool.Decides.{nat_tests}
use Rattle.std.proofs.lemmas.List.{length-map, length-replicate, take_all, drop_all}
use Rattle.dr_types.specs.declared.fault.StreamFault.{StreamFault}
use Rattle.dr_history.specs.Lookback.{below}
use Rattle.dr_history.specs.Memory.{filled}
use Rattle.dr_history.specs.Parts.{Part, Header, Round, Page, Zeros, End}
use Rattle.dr_history_law.proofs.Listing.{map_below}
use Rattle.dr_stream_law.specs.Grammar.{page_rises, MayStand, AreParts, Begins}
use Rattle.dr_stream_law.specs.Loading.{loaded_page, loaded_image}
use Rattle.dr_stream_law.specs.Faults.{HasFault}
use Rattle.dr_stream_reader.specs.declared.image.Image.{Image}
use Rattle.dr_stream_reader.specs.declared.record.Record.{Record}
use Rattle.dr_stream_reader.specs.declared.record.Record.TheVariants as kind
use Rattle.dr_stream_reader.specs.Records.{part_of, reaches, IsWholePage}
use Rattle.dr_stream_reader.specs.Reading.{Reading, HasRead, IsReaderOf, SaysNext, GoesPast}
use Rattle.dr_stream_reader.specs.Images.{HasLoaded, HasLoadedAll, IsImageOf, with_page, with_zeros, with_part}
use Rattle.dr_stream_reader.proofs.Pages.{page_written, length-joined, joined_zeros}
use Rattle.dr_stream_reader.proofs.Next.{same_kind}

either_page : (b : Bool) (old new : List ℕ) → length old ≡ 4096 → length new ≡ 4096 → length (cond b new old) ≡ 4096
either_page true old new a b = b
either_page false old new a b = a

zeros_whole : length (filled 0) ≡ 4096
unfolding filled
zeros_whole = length-replicate {A = ℕ} 4096 0

-- each page of an image is whole
whole : (version pages : ℕ) (parts : List Part) → AreParts version pages parts → (k : ℕ) → length (loaded_page k parts) ≡ 4096
whole version pages [] are k = zeros_whole
whole version pages (Header v n ∷ parts) are k = absurd are.0
whole version pages (Round r ∷ parts) are k = whole version pages parts are.1 k
whole version pages (Page q bytes ∷ parts) are k = either_page (q == k) (loaded_page k parts) bytes (whole version pages parts are.1 k) are.0.1
whole version pages (Zeros first n ∷ parts) are k =
    either_page (nat_le first k && nat_lt k (first + n)) (loaded_page k parts) (filled 0) (whole version pages parts are.1 k) zeros_whole
whole version pages (End n ∷ parts) are k = absurd are.0

zeros_whole_too : (first n : ℕ) (parts : List Part) → ((k : ℕ) → length (loaded_page k parts) ≡ 4096) → (k : ℕ) → length (loaded_page k (Zeros first n ∷ parts)) ≡ 4096
zeros_whole_too first n parts each k = either_page (nat_le first k && nat_lt k (first + n)) (loaded_page k parts) (filled 0) (each k) zeros_whole

page_loads : (pages q : ℕ) (bytes : List ℕ) (parts : List Part) → ((k : ℕ) → length (loaded_page k parts) ≡ 4096) → q < pages → concat (loaded_image pages (Page q bytes ∷ parts)) ≡ with_page q bytes (concat (loaded_image pages parts))
page_loads pages q bytes parts each lt =
    page_written (λ k. loaded_page k parts) (λ k. loaded_page k (Page q bytes ∷ parts)) q pages each (λ k ne. rw (ne_eqb q k (λ e. ne (sym e))) refl) lt
    ∙ ap (λ xs. with_page q xs (concat (loaded_image pages parts))) (ap (λ b. cond b bytes (loaded_page q parts)) (eq-eqb q q refl))

none : (first k : ℕ) → (nat_le first k && nat_lt k (first + 0)) ≡ false
none first k = grind (arith, nat_tests)

same_test : (first n k : ℕ) → (k ≡ first + n → ⊥) → (nat_le first k && nat_lt k (first + suc n)) ≡ (nat_le first k && nat_lt k (first + n))
same_test first n k other = grind (arith, nat_tests)

last_test : (first n : ℕ) → (nat_le first (first + n) && nat_lt (first + n) (first + suc n)) ≡ true
last_test first n = grind (arith, nat_tests)

zeros_load : (pages first n : ℕ) (parts : List Part) → ((k : ℕ) → length (loaded_page k parts) ≡ 4096) → first + n ≤ pages → concat (loaded_image pages (Zeros first n ∷ parts)) ≡ with_zeros first n (concat (loaded_image pages parts))
zeros_load pages first zero parts each le =
    ap concat (map_below (λ k. loaded_page k (Zeros first 0 ∷ parts)) (λ k. loaded_page k parts) pages (λ k l. ap (λ b. cond b (filled 0) (loaded_page k parts)) (none first k)))
zeros_load pages first (suc n) parts each le =
    page_written (λ k. loaded_page k (Zeros first n ∷ parts)) (λ k. loaded_page k (Zeros first (suc n) ∷ parts)) (first + n) pages (zeros_whole_too first n parts each)
    (λ k ne. ap (λ b. cond b (filled 0) (loaded_page k parts)) (same_test first n k ne)) (omega (arith, le))
    ∙ ap (λ xs. with_page (first + n) xs (concat (loaded_image pages (Zeros first n ∷ parts)))) (ap (λ b. cond b (filled 0) (loaded_page (first + n) parts)) (last_test first n))
    ∙ ap (with_page (first + n) (filled 0)) (zeros_load pages first n parts each (omega (arith, le)))

part_loads : (version pages : ℕ) (next : Record) (parts : List Part) → AreParts version pages parts → MayStand version pages (part_of next) parts → concat (loaded_image pages (part_of next ∷ parts)) ≡ with_part (part_of next) (concat (loaded_image pages parts))
part_loads version pages (kind.Round r) parts are may = refl
part_loads version pages (kind.Page page bytes) parts are may =
    page_loads pages page bytes.now parts (whole version pages parts are) (ltb-true page pages (and_parts (nat_lt page pages) (page_rises page parts) may.0).0)
part_loads version pages (kind.Zeros first n) parts are may =
    zeros_load pages first n parts (whole version pages parts are) (leb-true (first + n) pages (and_parts (nat_le 1 n) (nat_le (first + n) pages) may.2).1)

reach : (version pages : ℕ) (next : Record) (parts : List Part) → MayStand version pages (part_of next) parts → reaches (part_of next) ≤ pages
reach version pages (kind.Round r) parts may = omega arith
reach version pages (kind.Page page bytes) parts may =
    let lt : page < pages = ltb-true page pages (and_parts (nat_lt page pages) (page_rises page parts) may.0).0 in omega (arith, lt)
reach version pages (kind.Zeros first n) parts may = leb-true (first + n) pages (and_parts (nat_le 1 n) (nat_le (first + n) pages) may.2).1

whole_page : (version pages : ℕ) (next : Record) (parts : List Part) → MayStand version pages (part_of next) parts → IsWholePage (part_of next)
whole_page version pages (kind.Round r) parts may = tt
whole_page version pages (kind.Page page bytes) parts may = may.1
whole_page version pages (kind.Zeros first n) parts may = tt

image_length : (bytes image : List ℕ) (r : Reading) → HasLoaded bytes r image → length image ≡ r.standing.pages * 4096
image_length bytes image r loads =
    ap length loads.loaded ∙ length-joined (λ k. loaded_page k loads.parts) r.standing.pages (whole r.standing.version r.standing.pages loads.parts loads.has.begins.in_place)

-- a record that comes next lies in the image
pub reach_fits : (bytes image : List ℕ) (r : Reading) (next : Record) → HasLoaded bytes r image → SaysNext r (Ok (Some next)) → reaches (part_of next) * 4096 ≤ length image
unfolding SaysNext
reach_fits bytes image r next loads says =
    let le : reaches (part_of next) ≤ r.standing.pages = reach r.standing.version r.standing.pages next loads.parts (says loads.parts loads.has).may in
    let len : length image ≡ r.standing.pages * 4096 = image_length bytes image r loads in
    omega (arith, le, len)

pub reach_small : (bytes image : List ℕ) (r : Reading) (next : Record) → HasLoaded bytes r image → SaysNext r (Ok (Some next)) → reaches (part_of next) < 2 ^ 32
unfolding SaysNext
reach_small bytes image r next loads says =
    let le : reaches (part_of next) ≤ r.standing.pages = reach r.standing.version r.standing.pages next loads.parts (says loads.parts loads.has).may in
    omega (arith, le, loads.has.begins.few)

pub whole_fits : (bytes image : List ℕ) (r : Reading) (next : Record) → HasLoaded bytes r image → SaysNext r (Ok (Some next)) → IsWholePage (part_of next)
unfolding SaysNext
whole_fits bytes image r next loads says = whole_page r.standing.version r.standing.pages next loads.parts (says loads.parts loads.has).may

-- one record more is loaded
pub loads_on : (bytes image written : List ℕ) (r s : Reading) (next : Record) → HasLoaded bytes r image → SaysNext r (Ok (Some next)) → GoesPast next r s → written ≡ with_part (part_of next) image → HasLoaded bytes s written
unfolding SaysNext
loads_on bytes image written r s next loads says past is =
    let may = (says loads.parts loads.has).may in
    let pages : s.standing.pages ≡ r.standing.pages = ap (λ v. v.pages) past.standing ∙ (same_kind r.standing next).1 in
    record {
      parts = part_of next ∷ loads.parts;
      same = past.bytes ∙ loads.same;
      has = past.reads loads.parts loads.has;
      loaded =
          is ∙ ap (with_part (part_of next)) loads.loaded
          ∙ sym (part_loads r.standing.version r.standing.pages next loads.parts loads.has.begins.in_place may)
          ∙ ap (λ p. concat (loaded_image p (part_of next ∷ loads.parts))) (sym pages);
    }

-- all records are loaded
pub loads_all : (bytes image : List ℕ) (r s : Reading) → HasLoaded bytes r image → SaysNext r (Ok None) → s ≡ r → HasLoadedAll bytes s image
unfolding SaysNext
loads_all bytes image r s loads says is = subst (λ v. HasLoadedAll bytes v image) (sym is) (record {
  parts = loads.parts;
  same = loads.same;
  has = loads.has;
  loaded = loads.loaded;
  ends = says loads.parts loads.has;
})

pub reader_of : (bytes image : List ℕ) (r : Reading) → HasLoaded bytes r image → IsReaderOf bytes r
reader_of bytes image r loads = record { parts = loads.parts; same = loads.same; has = loads.has }

broken : (bytes : List ℕ) (r : Reading) (why : StreamFault) → IsReaderOf bytes r → SaysNext r (Err why) → HasFault bytes why
unfolding SaysNext
broken bytes r why reader says = inr (record {
  version = r.standing.version;
  pages = r.standing.pages;
  parts = reader.parts;
  rest = r.rest;
  begins = subst (λ xs. Begins xs r.standing.version r.standing.pages reader.parts r.rest) reader.same reader.has.begins;
  breaks = ap (λ xs. Rattle.dr_stream_law.specs.Faults.record_fault r.standing.version r.standing.pages reader.parts (length xs) r.rest) (sym reader.same) ∙ says reader.parts reader.has;
})

-- a fault of what is next is one of the bytes
pub breaks : (bytes : List ℕ) (r : Reading) (answer : Result (Option Record) StreamFault) → IsReaderOf bytes r → SaysNext r answer → IfErr answer (HasFault bytes)
breaks bytes r (Ok next) reader says = tt
breaks bytes r (Err why) reader says = broken bytes r why reader says

pub reader_at_start : (bytes : List ℕ) (r : Reading) → r.bytes ≡ bytes → HasRead [] r → IsReaderOf bytes r
reader_at_start bytes r same has = record { parts = []; same = same; has = has }

pub reads_on : (bytes : List ℕ) (r s : Reading) (next : Record) → IsReaderOf bytes r → GoesPast next r s → IsReaderOf bytes s
reads_on bytes r s next reader past = record {
  parts = part_of next ∷ reader.parts;
  same = past.bytes ∙ reader.same;
  has = past.reads reader.parts reader.has;
}

zeros_joined : (n : ℕ) → concat (loaded_image n []) ≡ replicate (n * 4096) 0
unfolding filled
zeros_joined n = joined_zeros n

-- zeros over one page more
pub zeros_more : (first done : ℕ) (image start bytes new : List ℕ) → image ≡ with_zeros first done start → bytes ≡ replicate 4096 0 → new ≡ with_page (first + done) bytes image → new ≡ with_zeros first (done + 1) start
unfolding filled
zeros_more first done image start bytes new is zeros written =
    written ∙ ap (λ xs. with_page (first + done) xs image) zeros ∙ ap (with_page (first + done) (replicate 4096 0)) is
    ∙ ap (λ n. with_zeros first n start) (sym (add-one done))

-- nothing is loaded yet
pub starts : (bytes image : List ℕ) (r : Reading) → r.bytes ≡ bytes → HasRead [] r → image ≡ replicate (r.standing.pages * 4096) 0 → HasLoaded bytes r image
starts bytes image r same has is = record {
  parts = [];
  same = same;
  has = has;
  loaded = is ∙ sym (zeros_joined r.standing.pages);
}

length-below : (n : ℕ) → length (below n) ≡ n
length-below zero = refl
length-below (suc n) =
    let more : length (below n ++ n ∷ []) ≡ length (below n) + 1 = Rattle.std.proofs.Common.length-append (below n) (n ∷ []) in
    let old : length (below n) ≡ n = length-below n in
    omega (arith, more, old)

-- the image of a stream
pub is_image : (bytes loaded : List ℕ) (r : Reading) (image : Image) → HasLoadedAll bytes r loaded → image.pages ≡ r.standing.pages → image.bytes ≡ loaded → image.records ≡ r.standing.records → IsImageOf bytes image
is_image bytes loaded r image all pages is records = record {
  memory = loaded_image r.standing.pages all.parts;
  stream = record {
    version = r.standing.version;
    pages = r.standing.pages;
    parts = all.parts;
    begins = subst (Begins bytes r.standing.version r.standing.pages all.parts) all.ends (subst (λ xs. Begins xs r.standing.version r.standing.pages all.parts r.rest) all.same all.has.begins);
    image_is = refl;
    counted = records ∙ all.has.stands.records;
  };
  counted = pages ∙ sym (length-map (below r.standing.pages) (λ page. loaded_page page all.parts) ∙ length-below r.standing.pages);
  bytes_are = is ∙ all.loaded;
}

-- what was written through a slice of all of a list
pub written_back : (old new : List ℕ) → length new ≡ length old → take (length old) (new ++ drop (length old) old) ≡ new
written_back old new is =
    ap (λ xs. take (length old) (new ++ xs)) (drop_all (length old) old (omega arith)) ∙ ap (take (length old)) (append-nil new) ∙ take_all (length old) new (omega (arith, is))

pub ruleset for_load_records = (loads_on, loads_all, reader_of, reach_small, whole_fits)

pub ruleset for_load = (starts, is_image, written_back)
