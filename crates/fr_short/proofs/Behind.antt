-- One sample through the sections in lanes.
use Rattle.std.proofs.Common.{◌≡◌, ℕ, ◌+◌, ◌-◌, ◌%◌, ◌^◌, ◌<◌, ◌≤◌, suc, ℤ, pos, FitsSigned, w16, to_z, of_z, map, reverse, take, drop, List, [], ◌∷◌, ◌++◌}
use Rattle.std.proofs.Common.{length, get_or, set, refl, ap, sym, ◌∙◌, arith, lit<, drop-cons, append_assoc, append-nil, add-one, Bool, not, cond, eqb}
use Rattle.std.specs.Simd.Lanes.{zip2, Each1}
use Rattle.trau_num.specs.Num.{sub_of, add_of, mult_r_of}
use Rattle.trau_lanes.specs.Lanes.{EightWords, EightFactors}
use Rattle.trau_lanes.proofs.Eight.{lanes_kept, by_eight, by_pairs, eight_same}
use Rattle.trau_num.proofs.Clamped.{sub_word}
use Rattle.std.proofs.lemmas.List.{length-set, drop_all, take_all, length-map}
use Rattle.std.proofs.lemmas.Grind.{take-set_at}
use Rattle.std.proofs.lemmas.Nat.{mod_below}
use Rattle.std.proofs.lemmas.Int.{ints, to_z-of_z}
use Rattle.std.proofs.lemmas.Simd.{length-zip2, tops_compared, mask_l-mod}
use lib.Lanes.{mask_l, top}
use Rattle.fr_short.specs.Lanes.{words_behind}
use Rattle.fr_short.specs.Words.{AreEightFactors}
use Rattle.fr_short.specs.Synthesis.{synthesis_lattice, sections_after}

-- a guess that the check lets through is right: each word is the one before it less the step
pub checked : (s : ℤ) (xs ms : List ℤ) → length xs ≡ length ms → zip2 sub_of (take (length xs) (s ∷ xs)) ms ≡ xs → xs ≡ words_behind s ms
checked s [] [] l e = refl
checked s [] (m ∷ ms) l e = absurd (omega arith)
checked s (x ∷ xs) [] l e = absurd (omega arith)
checked s (x ∷ xs) (m ∷ ms) l e =
    let here : sub_of s m ≡ x = ap (λ zs. get_or zs 0 (pos 0)) e in
    let rest : zip2 sub_of (take (length xs) (x ∷ xs)) ms ≡ xs = ap (drop 1) e in
    let more = checked x xs ms (omega arith) rest in
    sym (ap (λ y. y ∷ words_behind y ms) here ∙ ap (λ zs. x ∷ zs) (sym more))

-- ---- one after the other

-- i words are found, and what is left gives the rest
pub record Found (sample : ℤ) (steps words : List ℤ) (s : ℤ) (i : ℕ) : Type 0 where
  pub long : length words ≡ length steps
  pub found : words_behind sample steps ≡ take i words ++ words_behind s (drop i steps)

-- one section more
pub found_next : (sample : ℤ) (steps words : List ℤ) (s x : ℤ) (i : ℕ) → i < length steps → Found sample steps words s i →
    x ≡ sub_of s (get_or steps i (pos 0)) →
    Found sample steps (set words i x) x (i + 1)
found_next sample steps words s x i l h e =
    let long = h.long in
    let first = drop-cons steps i (pos 0) l in
    let t : take (i + 1) (set words i x) ≡ take i words ++ x ∷ [] = take-set_at words i (i + 1) x refl (omega arith) in
    let rest : words_behind s (drop i steps) ≡ x ∷ words_behind x (drop (i + 1) steps) = rw (first, e, add-one) refl in
    record { long = length-set words i x ∙ long; found = rw (t, append_assoc) (rw rest at h.found) }

pub found_all : (sample : ℤ) (steps words : List ℤ) (s : ℤ) (i : ℕ) → length steps ≤ i → Found sample steps words s i → words ≡ words_behind sample steps
found_all sample steps words s i l h =
    let long = h.long in
    let t : take i words ≡ words = take_all i words (omega arith) in
    let n : drop i steps ≡ [] = drop_all i steps l in
    sym (rw (t, n, append-nil) at h.found)

-- what stands behind is words
behind_words : (s : ℤ) (ms : List ℤ) → Each1 (FitsSigned w16) (words_behind s ms)
behind_words s [] = tt
behind_words s (m ∷ ms) = (sub_word s m, behind_words (sub_of s m) ms)

-- there is a word behind each section
behind_long : (s : ℤ) (ms : List ℤ) → length (words_behind s ms) ≡ length ms
behind_long s [] = refl
behind_long s (m ∷ ms) = ap suc (behind_long (sub_of s m) ms)

pub behind_eight : (s : ℤ) (ms : List ℤ) → length ms ≡ 8 → EightWords (words_behind s ms)
behind_eight s ms l = record { eight = behind_long s ms ∙ l; words = behind_words s ms }

-- ---- the guess

-- lanes of sums that wrap are words
pub wrapped_words : (f : ℕ → ℕ → ℕ) → ((a b : ℕ) → f a b < 2 ^ 16) → (xs ys : List ℕ) → length xs ≡ 8 → length ys ≡ 8 →
    EightWords (map (to_z w16) (zip2 f xs ys))
wrapped_words f h xs ys l m = record { eight = length-map (zip2 f xs ys) (to_z w16) ∙ length-zip2 f xs ys (l ∙ sym m) ∙ l; words = each xs ys }
  where
    word : (n : ℕ) → n < 2 ^ 16 → FitsSigned w16 (to_z w16 n)
    word n l = omega (arith, ints)

    each : (xs ys : List ℕ) → Each1 (FitsSigned w16) (map (to_z w16) (zip2 f xs ys))
    each [] ys = tt
    each (x ∷ xs) [] = tt
    each (x ∷ xs) (y ∷ ys) = (word (f x y) (h x y), each xs ys)

-- the guess in lanes: sums of one, two, four and eight
abbrev adds : ℕ → ℕ → ℕ
adds a b = (a + b) % 2 ^ 16

abbrev subtracts : ℕ → ℕ → ℕ
subtracts a b = (a + (2 ^ 16 - b)) % 2 ^ 16

abbrev firsts : ℕ → List ℕ → List ℕ
firsts s ms = zip2 subtracts (s ∷ 0 ∷ 0 ∷ 0 ∷ 0 ∷ 0 ∷ 0 ∷ 0 ∷ []) ms

abbrev seconds : List ℕ → List ℕ
seconds xs = zip2 adds xs (0 ∷ get_or xs 0 0 ∷ get_or xs 1 0 ∷ get_or xs 2 0 ∷ get_or xs 3 0 ∷ get_or xs 4 0 ∷ get_or xs 5 0 ∷ get_or xs 6 0 ∷ [])

abbrev fourths : List ℕ → List ℕ
fourths xs = zip2 adds xs (0 ∷ 0 ∷ get_or xs 0 0 ∷ get_or xs 1 0 ∷ get_or xs 2 0 ∷ get_or xs 3 0 ∷ get_or xs 4 0 ∷ get_or xs 5 0 ∷ [])

abbrev eighths : List ℕ → List ℕ
eighths xs = zip2 adds xs (0 ∷ 0 ∷ 0 ∷ 0 ∷ get_or xs 0 0 ∷ get_or xs 1 0 ∷ get_or xs 2 0 ∷ get_or xs 3 0 ∷ [])

-- the guess are words
pub guess_words : (s : ℕ) (ms : List ℤ) → length ms ≡ 8 → EightWords (map (to_z w16) (eighths (fourths (seconds (firsts s (map (of_z w16) ms))))))
guess_words s ms l =
    let bits = map (of_z w16) ms in
    let steps : length bits ≡ 8 = length-map ms (of_z w16) ∙ l in
    let one : length (firsts s bits) ≡ 8 = length-zip2 subtracts (s ∷ 0 ∷ 0 ∷ 0 ∷ 0 ∷ 0 ∷ 0 ∷ 0 ∷ []) bits (sym steps) in
    let two : length (seconds (firsts s bits)) ≡ 8 = length-zip2 adds (firsts s bits) _ one ∙ one in
    let four : length (fourths (seconds (firsts s bits))) ≡ 8 = length-zip2 adds (seconds (firsts s bits)) _ two ∙ two in
    wrapped_words adds (λ a b. mod_below (a + b) (2 ^ 16) (lit< tt)) (fourths (seconds (firsts s bits))) _ four refl

-- lanes none of which differ are the same
none_differ : (xs ys : List ℕ) → length xs ≡ length ys → mask_l (zip2 (λ a b. not (eqb a b)) xs ys) ≡ 0 → xs ≡ ys
none_differ [] [] l e = refl
none_differ [] (y ∷ ys) l e = absurd (omega arith)
none_differ (x ∷ xs) [] l e = absurd (omega arith)
none_differ (x ∷ xs) (y ∷ ys) l e =
    let rest : mask_l (zip2 (λ a b. not (eqb a b)) xs ys) ≡ 0 = omega arith in
    let here : x ≡ y = grind arith in
    (λ i. here i ∷ none_differ xs ys (omega arith) rest i)

-- lanes of which none differs are the same
pub same_lanes : (xs ys : List ℕ) → length xs ≡ 8 → length ys ≡ 8 →
    mask_l (map (top 15) (zip2 (λ a b. cond (not (eqb a b)) (2 ^ 16 - 1) 0) xs ys)) % 2 ^ 64 ≡ 0 → xs ≡ ys
same_lanes xs ys l m e =
    let differ : List Bool = zip2 (λ a b. not (eqb a b)) xs ys in
    let tops = tops_compared w16 (λ a b. not (eqb a b)) xs ys in
    let long : length differ ≡ 8 = length-zip2 (λ a b. not (eqb a b)) xs ys (l ∙ sym m) ∙ l in
    none_differ xs ys (l ∙ sym m) (sym (mask_l-mod differ 64 (omega arith)) ∙ ap (λ bs. mask_l bs % 2 ^ 64) (sym tops) ∙ e)

pub same_words : (xs ys : List ℤ) → EightWords xs → EightWords ys →
    mask_l (map (top 15) (zip2 (λ a b. cond (not (eqb a b)) (2 ^ 16 - 1) 0) (map (of_z w16) xs) (map (of_z w16) ys))) % 2 ^ 64 ≡ 0 → xs ≡ ys
same_words xs ys p q e =
    sym (lanes_kept w16 xs p.words) ∙
    ap (map (to_z w16)) (same_lanes (map (of_z w16) xs) (map (of_z w16) ys) (length-map xs (of_z w16) ∙ p.eight) (length-map ys (of_z w16) ∙ q.eight) e) ∙
    lanes_kept w16 ys q.words

-- ---- one sample

-- the lanes that are stored, and the word that comes out of the first section, from what the second shuffle of `pass`
-- gives, last lane first
pub moved : (xs ys : List ℤ) → EightWords xs → EightWords ys →
    (to_z w16 (get_or (map (of_z w16) xs ++ map (of_z w16) ys) 15 0) ∷ to_z w16 (get_or (map (of_z w16) xs ++ map (of_z w16) ys) 7 0) ∷
    to_z w16 (get_or (map (of_z w16) xs ++ map (of_z w16) ys) 6 0) ∷ to_z w16 (get_or (map (of_z w16) xs ++ map (of_z w16) ys) 5 0) ∷
    to_z w16 (get_or (map (of_z w16) xs ++ map (of_z w16) ys) 4 0) ∷ to_z w16 (get_or (map (of_z w16) xs ++ map (of_z w16) ys) 3 0) ∷
    to_z w16 (get_or (map (of_z w16) xs ++ map (of_z w16) ys) 2 0) ∷ to_z w16 (get_or (map (of_z w16) xs ++ map (of_z w16) ys) 1 0) ∷ [])
    ≡ (get_or ys 7 (pos 0) ∷ get_or xs 7 (pos 0) ∷ get_or xs 6 (pos 0) ∷ get_or xs 5 (pos 0) ∷ get_or xs 4 (pos 0) ∷ get_or xs 3 (pos 0) ∷
    get_or xs 2 (pos 0) ∷ get_or xs 1 (pos 0) ∷ [])
moved xs ys p q =
    by_pairs (FitsSigned w16) (FitsSigned w16) (λ x y. (to_z w16 (of_z w16 x) ≡ x) × (to_z w16 (of_z w16 y) ≡ y))
    (λ xs ys. (to_z w16 (get_or (map (of_z w16) xs ++ map (of_z w16) ys) 15 0) ∷ to_z w16 (get_or (map (of_z w16) xs ++ map (of_z w16) ys) 7 0) ∷
    to_z w16 (get_or (map (of_z w16) xs ++ map (of_z w16) ys) 6 0) ∷ to_z w16 (get_or (map (of_z w16) xs ++ map (of_z w16) ys) 5 0) ∷
    to_z w16 (get_or (map (of_z w16) xs ++ map (of_z w16) ys) 4 0) ∷ to_z w16 (get_or (map (of_z w16) xs ++ map (of_z w16) ys) 3 0) ∷
    to_z w16 (get_or (map (of_z w16) xs ++ map (of_z w16) ys) 2 0) ∷ to_z w16 (get_or (map (of_z w16) xs ++ map (of_z w16) ys) 1 0) ∷ [])
    ≡ (get_or ys 7 (pos 0) ∷ get_or xs 7 (pos 0) ∷ get_or xs 6 (pos 0) ∷ get_or xs 5 (pos 0) ∷ get_or xs 4 (pos 0) ∷ get_or xs 3 (pos 0) ∷
    get_or xs 2 (pos 0) ∷ get_or xs 1 (pos 0) ∷ []))
    (λ x y f g. (to_z-of_z w16 x f, to_z-of_z w16 y g))
    (λ a b c d e f g h a' b' c' d' e' f' g' h' r s t u v w x y. eight_same y.1 y.0 x.0 w.0 v.0 u.0 t.0 s.0)
    xs ys p.eight q.eight p.words q.words

-- the words behind the sections, and what each stores, lane by lane
abbrev pub behind_lanes : List ℤ → List ℤ → ℤ → List ℤ
behind_lanes rs vs s = words_behind s (zip2 mult_r_of rs vs)

-- what the sections store, in lanes
abbrev pub stored_lanes : List ℤ → List ℤ → ℤ → List ℤ
stored_lanes rs vs s = zip2 add_of vs (zip2 mult_r_of rs (behind_lanes rs vs s))

-- they are those of the sections, the last of which is in lane 0
pub record AreSections (rs vs : List ℤ) (s : ℤ) : Type 0 where
  pub value : get_or (behind_lanes rs vs s) 7 (pos 0) ≡ (synthesis_lattice (reverse rs) (reverse vs) s).0
  pub sections : (get_or (behind_lanes rs vs s) 7 (pos 0) ∷ get_or (stored_lanes rs vs s) 7 (pos 0) ∷ get_or (stored_lanes rs vs s) 6 (pos 0) ∷
      get_or (stored_lanes rs vs s) 5 (pos 0) ∷
      get_or (stored_lanes rs vs s) 4 (pos 0) ∷ get_or (stored_lanes rs vs s) 3 (pos 0) ∷ get_or (stored_lanes rs vs s) 2 (pos 0) ∷
      get_or (stored_lanes rs vs s) 1 (pos 0) ∷ [])
      ≡ sections_after (synthesis_lattice (reverse rs) (reverse vs) s)

-- in lanes a sample goes through the sections as through the lattice
pub are_sections : (rs vs : List ℤ) (s : ℤ) → length rs ≡ 8 → length vs ≡ 8 → AreSections rs vs s
are_sections rs vs s l m =
    by_eight (λ rs. AreSections rs vs s)
    (λ a b c d e f g h. by_eight (λ vs. AreSections (a ∷ b ∷ c ∷ d ∷ e ∷ f ∷ g ∷ h ∷ []) vs s)
    (λ a' b' c' d' e' f' g' h'. record { value = refl; sections = refl }) vs m) rs l

-- ---- the order of the lanes

-- eight words with the last one first
pub turned : (xs : List ℤ) → length xs ≡ 8 →
    FitsSigned w16 (get_or xs 0 (pos 0)) → FitsSigned w16 (get_or xs 1 (pos 0)) → FitsSigned w16 (get_or xs 2 (pos 0)) → FitsSigned w16 (get_or xs 3 (pos 0)) →
    FitsSigned w16 (get_or xs 4 (pos 0)) → FitsSigned w16 (get_or xs 5 (pos 0)) → FitsSigned w16 (get_or xs 6 (pos 0)) → FitsSigned w16 (get_or xs 7 (pos 0)) →
    (to_z w16 (of_z w16 (get_or xs 7 (pos 0))) ∷ to_z w16 (of_z w16 (get_or xs 6 (pos 0))) ∷ to_z w16 (of_z w16 (get_or xs 5 (pos 0))) ∷
    to_z w16 (of_z w16 (get_or xs 4 (pos 0))) ∷
    to_z w16 (of_z w16 (get_or xs 3 (pos 0))) ∷ to_z w16 (of_z w16 (get_or xs 2 (pos 0))) ∷ to_z w16 (of_z w16 (get_or xs 1 (pos 0))) ∷
    to_z w16 (of_z w16 (get_or xs 0 (pos 0))) ∷ []) ≡ reverse xs
turned xs l a b c d e f g h =
    eight_same (to_z-of_z w16 _ h) (to_z-of_z w16 _ g) (to_z-of_z w16 _ f) (to_z-of_z w16 _ e) (to_z-of_z w16 _ d) (to_z-of_z w16 _ c) (to_z-of_z w16 _ b)
    (to_z-of_z w16 _ a) ∙
    by_eight (λ xs. (get_or xs 7 (pos 0) ∷ get_or xs 6 (pos 0) ∷ get_or xs 5 (pos 0) ∷ get_or xs 4 (pos 0) ∷ get_or xs 3 (pos 0) ∷ get_or xs 2 (pos 0) ∷
    get_or xs 1 (pos 0) ∷ get_or xs 0 (pos 0) ∷ []) ≡ reverse xs)
    (λ a b c d e f g h. refl) xs l

pub turned_factors : (xs : List ℤ) → length xs ≡ 8 → AreEightFactors xs → EightFactors (reverse xs)
turned_factors xs l =
    by_eight (λ xs. AreEightFactors xs → EightFactors (reverse xs))
    (λ a b c d e f g h p. record {
      eight = refl;
      factors =
          (p 7 (lit< tt), (p 6 (lit< tt), (p 5 (lit< tt), (p 4 (lit< tt), (p 3 (lit< tt), (p 2 (lit< tt), (p 1 (lit< tt), (p 0 (lit< tt), tt))))))));
    }) xs l

-- the lanes that a frame leaves
pub turned_back : (ns : List ℕ) → length ns ≡ 8 →
    (to_z w16 (get_or (ns ++ ns) 7 0) ∷ to_z w16 (get_or (ns ++ ns) 6 0) ∷ to_z w16 (get_or (ns ++ ns) 5 0) ∷ to_z w16 (get_or (ns ++ ns) 4 0) ∷
    to_z w16 (get_or (ns ++ ns) 3 0) ∷ to_z w16 (get_or (ns ++ ns) 2 0) ∷ to_z w16 (get_or (ns ++ ns) 1 0) ∷ to_z w16 (get_or (ns ++ ns) 0 0) ∷ []) ≡
    reverse (map (to_z w16) ns)
turned_back (a ∷ b ∷ c ∷ d ∷ e ∷ f ∷ g ∷ h ∷ []) l = refl
turned_back [] l = absurd (omega arith)
turned_back (a ∷ []) l = absurd (omega arith)
turned_back (a ∷ b ∷ []) l = absurd (omega arith)
turned_back (a ∷ b ∷ c ∷ []) l = absurd (omega arith)
turned_back (a ∷ b ∷ c ∷ d ∷ []) l = absurd (omega arith)
turned_back (a ∷ b ∷ c ∷ d ∷ e ∷ []) l = absurd (omega arith)
turned_back (a ∷ b ∷ c ∷ d ∷ e ∷ f ∷ []) l = absurd (omega arith)
turned_back (a ∷ b ∷ c ∷ d ∷ e ∷ f ∷ g ∷ []) l = absurd (omega arith)
turned_back (a ∷ b ∷ c ∷ d ∷ e ∷ f ∷ g ∷ h ∷ i ∷ ns) l = absurd (omega arith)
