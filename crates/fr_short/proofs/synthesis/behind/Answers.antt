use Rattle.std.proofs.Common.{sym, ap, subst, ◌∙◌, map, to_z, of_z, w16, take, ◌∷◌, ◌≡◌, length}
use Rattle.std.proofs.lemmas.Int.{to_z-of_z}
use Rattle.std.specs.Simd.Lanes.{zip2}
use Rattle.trau_num.specs.Num.{sub_of}
use Rattle.trau_lanes.specs.Lanes.{EightWords}
use Rattle.trau_lanes.proofs.Eight.{words_kept, words_passed, eight_zipped, shifted_words}
use Rattle.trau_num.proofs.Clamped.{sub_word}
use Rattle.fr_short.specs.Lanes.{words_behind}
use Rattle.fr_short.proofs.Behind.{checked, behind_eight, same_words}
use Rattle.fr_short.proofs.synthesis.behind.Goals as goal
use Rattle.fr_short.proofs.synthesis.behind.Goals.{then-minus_lanes-guess-ne0, else-minus_lanes-guess-ne0}

pub shift_in-requires : goal.shift_in-requires
shift_in-requires c = words_passed _ c.guess-guess.ensures

pub minus_lanes-requires-clause-b : goal.minus_lanes-requires-clause-b
minus_lanes-requires-clause-b c = words_passed _ c.requires

pub in_turn-requires : goal.in_turn-requires
in_turn-requires c = words_passed _ c.requires

pub returns-clause-value : goal.returns-clause-value
returns-clause-value c =
    let sample = to_z-of_z w16 c.args.sample c.ranges.sample in
    let steps = words_kept c.args.steps c.requires in
    let behind = words_behind c.args.sample c.args.steps in
    let eight = behind_eight c.args.sample c.args.steps c.requires.eight in
    elim c.if-minus_lanes-guess-ne0.branch [
      | then-minus_lanes-guess-ne0 w ↦
          let found : w.in_turn.result ≡ behind = w.in_turn.ensures ∙ (λ i. words_behind (sample i) (steps i)) in
          ap (map (to_z w16)) w.result-is ∙ ap (λ zs. map (to_z w16) (map (of_z w16) zs)) found ∙ words_kept behind eight
      | else-minus_lanes-guess-ne0 w ↦
          let guess = c.guess-guess.result in
          let before = take 8 (c.args.sample ∷ guess) in
          let guessed = words_kept guess c.guess-guess.ensures in
          let first : c.shift_in.result ≡ before = c.shift_in.ensures ∙ (λ i. take 8 (sample i ∷ guessed i)) in
          let words = shifted_words c.args.sample guess c.ranges.sample c.guess-guess.ensures in
          let shifted : map (to_z w16) (map (of_z w16) c.shift_in.result) ≡ before =
          ap (λ zs. map (to_z w16) (map (of_z w16) zs)) first ∙ words_kept before words in
          let minus : c.minus_lanes.result ≡ zip2 sub_of before c.args.steps = c.minus_lanes.ensures ∙ (λ i. zip2 sub_of (shifted i) (steps i)) in
          let minus_words = subst EightWords (sym minus) (eight_zipped sub_of sub_word before c.args.steps words.eight c.requires.eight) in
          let same : c.minus_lanes.result ≡ guess = same_words c.minus_lanes.result guess minus_words c.guess-guess.ensures w.if-minus_lanes-guess-ne0.false in
          let passes : zip2 sub_of (take (length guess) (c.args.sample ∷ guess)) c.args.steps ≡ guess =
          ap (λ n. zip2 sub_of (take n (c.args.sample ∷ guess)) c.args.steps) c.guess-guess.ensures.eight ∙ sym minus ∙ same in
          let found : guess ≡ behind = checked c.args.sample guess c.args.steps (c.guess-guess.ensures.eight ∙ sym c.requires.eight) passes in
          ap (map (to_z w16)) w.result-is ∙ guessed ∙ found
    ]

pub returns-clause-words : goal.returns-clause-words
returns-clause-words c = subst EightWords (sym (returns-clause-value c)) (behind_eight c.args.sample c.args.steps c.requires.eight)
