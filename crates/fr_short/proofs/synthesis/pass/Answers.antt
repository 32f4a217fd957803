use Rattle.std.proofs.Common.{◌≡◌, ℤ, List, map, to_z, of_z, w16, ap, ◌∙◌, get_or, pos, arith, FitsSigned, ◌∷◌, []}
use Rattle.std.proofs.lemmas.Int.{to_z-of_z}
use Rattle.std.proofs.lemmas.Simd.{Each1-get_or}
use Rattle.std.specs.Simd.Lanes.{zip2}
use Rattle.trau_num.specs.Num.{add_of, mult_r_of}
use Rattle.trau_lanes.specs.Lanes.{EightWords, EightFactors}
use Rattle.trau_lanes.proofs.Eight.{words_kept, words_passed, factors_passed}
use Rattle.trau_lanes.proofs.LaneSums.{sums_given}
use Rattle.trau_lanes.proofs.LaneProducts.{products_given}
use Rattle.fr_short.specs.Lanes.{words_behind}
use Rattle.fr_short.proofs.Behind.{behind_lanes, stored_lanes, are_sections, moved}
use Rattle.fr_short.proofs.synthesis.pass.Goals as goal

-- what the four functions give
record Gives (rs vs : List ℤ) (s : ℤ) (words stored : List ℤ) : Type 0 where
  behind : words ≡ behind_lanes rs vs s
  sums : stored ≡ stored_lanes rs vs s
  stored_words : EightWords stored

gives : (rs vs : List ℤ) (s : ℤ) (steps words products stored : List ℤ) → EightFactors rs → EightWords vs → FitsSigned w16 s → EightWords words →
    steps ≡ zip2 mult_r_of (map (to_z w16) (map (of_z w16) rs)) (map (to_z w16) (map (of_z w16) vs)) →
    words ≡ words_behind (to_z w16 (of_z w16 s)) (map (to_z w16) (map (of_z w16) steps)) →
    products ≡ zip2 mult_r_of (map (to_z w16) (map (of_z w16) rs)) (map (to_z w16) (map (of_z w16) words)) →
    stored ≡ zip2 add_of (map (to_z w16) (map (of_z w16) vs)) (map (to_z w16) (map (of_z w16) products)) →
    Gives rs vs s words stored
gives rs vs s steps words products stored fr fv fs fw es ew ep et =
    let one = products_given rs vs steps fr fv es in
    let behind : words ≡ behind_lanes rs vs s = ew ∙ (λ i. words_behind (to_z-of_z w16 s fs i) ((words_kept steps one.1 ∙ one.0) i)) in
    let two = products_given rs words products fr fw ep in
    let three = sums_given vs products stored fv two.1 et in
    record { behind = behind; sums = three.0 ∙ ap (zip2 add_of vs) (two.0 ∙ ap (zip2 mult_r_of rs) behind); stored_words = three.1 }

pub scaled_lanes-requires-clause-factors : goal.scaled_lanes-requires-clause-factors
scaled_lanes-requires-clause-factors c = factors_passed _ c.requires.factors

pub scaled_lanes-requires-clause-values : goal.scaled_lanes-requires-clause-values
scaled_lanes-requires-clause-values c = words_passed _ c.requires.words

pub behind-words-requires : goal.behind-words-requires
behind-words-requires c = words_passed _ (products_given c.args.rs c.args.vs.now _ c.requires.factors c.requires.words c.scaled_lanes.ensures).1

pub scaled_lanes-requires-2-clause-factors : goal.scaled_lanes-requires-2-clause-factors
scaled_lanes-requires-2-clause-factors c = factors_passed _ c.requires.factors

pub scaled_lanes-requires-2-clause-values : goal.scaled_lanes-requires-2-clause-values
scaled_lanes-requires-2-clause-values c = words_passed _ c.behind-words.ensures.words

pub plus_lanes-stored-requires-clause-a : goal.plus_lanes-stored-requires-clause-a
plus_lanes-stored-requires-clause-a c = words_passed _ c.requires.words

pub plus_lanes-stored-requires-clause-b : goal.plus_lanes-stored-requires-clause-b
plus_lanes-stored-requires-clause-b c =
    words_passed _ (products_given c.args.rs c.behind-words.result _ c.requires.factors c.behind-words.ensures.words c.scaled_lanes-2.ensures).1

pub returns-clause-value : goal.returns-clause-value
returns-clause-value c =
    let is = are_sections c.args.rs c.args.vs.now c.args.sample c.requires.factors.eight c.requires.words.eight in
    let given = gives c.args.rs c.args.vs.now c.args.sample c.scaled_lanes.result c.behind-words.result c.scaled_lanes-2.result c.plus_lanes-stored.result
    c.requires.factors c.requires.words
    c.ranges.sample c.behind-words.ensures.words c.scaled_lanes.ensures c.behind-words.ensures.value c.scaled_lanes-2.ensures c.plus_lanes-stored.ensures in
    let words = c.behind-words.ensures.words in
    let eight = words.eight in
    let last : FitsSigned w16 (get_or c.behind-words.result 7 (pos 0)) =
    Each1-get_or (FitsSigned w16) c.behind-words.result 7 (pos 0) (omega arith) words.words in
    ap (λ xs. to_z w16 (of_z w16 (get_or xs 7 (pos 0)))) (words_kept c.behind-words.result words) ∙ to_z-of_z w16 _ last ∙
    ap (λ xs. get_or xs 7 (pos 0)) given.behind ∙ is.value

pub returns-clause-sections : goal.returns-clause-sections
returns-clause-sections c =
    let is = are_sections c.args.rs c.args.vs.now c.args.sample c.requires.factors.eight c.requires.words.eight in
    let given = gives c.args.rs c.args.vs.now c.args.sample c.scaled_lanes.result c.behind-words.result c.scaled_lanes-2.result c.plus_lanes-stored.result
    c.requires.factors c.requires.words
    c.ranges.sample c.behind-words.ensures.words c.scaled_lanes.ensures c.behind-words.ensures.value c.scaled_lanes-2.ensures c.plus_lanes-stored.ensures in
    moved c.plus_lanes-stored.result c.behind-words.result given.stored_words c.behind-words.ensures.words ∙
    (λ i. get_or (given.behind i) 7 (pos 0) ∷ get_or (given.sums i) 7 (pos 0) ∷ get_or (given.sums i) 6 (pos 0) ∷ get_or (given.sums i) 5 (pos 0) ∷
    get_or (given.sums i) 4 (pos 0) ∷ get_or (given.sums i) 3 (pos 0) ∷ get_or (given.sums i) 2 (pos 0) ∷ get_or (given.sums i) 1 (pos 0) ∷ []) ∙ is.sections
