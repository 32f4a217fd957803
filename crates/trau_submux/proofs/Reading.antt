-- Four lines, read one behind the other.
use Rattle.std.proofs.Common.{◌≡◌, ℕ, ◌+◌, ◌<◌, ◌≤◌, List, [], length, get_or, sym, ◌∙◌, subst, arith}
use Rattle.std.proofs.lemmas.List.{take_all}
use Rattle.trau_io.specs.declared.line.Side.{Side}
use Rattle.trau_io.specs.declared.line.Side.TheVariants.{Up}
use Rattle.trau_io.specs.declared.transfer.Filled.TheVariants.{Whole, Ended}
use Rattle.trau_io.specs.Lines.{LineState, OthersStay}
use Rattle.trau_io.specs.Transfer.{Gives, ReadsBlock}
use Rattle.trau_submux.specs.Lines.{AllButFour, channel_lines}
use Rattle.trau_submux.specs.Merges.{FailsAt, FailsInside, GivesBlock}

-- the first `n` of the four lines have given a block
pub record ReadSoFar (before now : ℕ → Side → LineState) (call : ℕ) (blocks : List (List ℕ)) (counts : List ℕ) (n : ℕ) : Type 0 where
  pub four_blocks : length blocks ≡ 4
  pub four_counts : length counts ≡ 4
  pub done : (j : ℕ) → j < n → GivesBlock (before (call + j) Up) (now (call + j) Up) (get_or blocks j []) (get_or counts j 0)
  pub rest : (j : ℕ) → n ≤ j → now (call + j) Up ≡ before (call + j) Up
  pub others : AllButFour before now call Up

module _ (before now after : ℕ → Side → LineState) (call : ℕ) (blocks : List (List ℕ)) (counts : List ℕ) (n : ℕ) (few : n < 4)
    (so_far : ReadSoFar before now call blocks counts n) (others : OthersStay now after (call + n) Up) where
  -- the next line is as it was, and the others stay
  fresh : now (call + n) Up ≡ before (call + n) Up
  fresh = so_far.rest n (omega arith)

  kept : (j : ℕ) → (j ≡ n → ⊥) → after (call + j) Up ≡ now (call + j) Up
  kept j ne = others (call + j) Up (λ e _. ne (omega arith))

  earlier : (j : ℕ) → j < n → GivesBlock (before (call + j) Up) (after (call + j) Up) (get_or blocks j []) (get_or counts j 0)
  earlier j below = subst (λ l. GivesBlock (before (call + j) Up) l (get_or blocks j []) (get_or counts j 0)) (sym (kept j (λ e. omega arith)))
      (so_far.done j below)

  later : (j : ℕ) → n < j → after (call + j) Up ≡ before (call + j) Up
  later j above = kept j (λ e. omega arith) ∙ so_far.rest j (omega arith)

  -- a line failed
  pub fails : FailsInside (now (call + n) Up) (after (call + n) Up) → FailsAt (channel_lines before call Up) (channel_lines after call Up) n
  fails inside = record {
    one = few;
    before = λ j below. (get_or blocks j [], get_or counts j 0, earlier j below);
    here = subst (λ l. FailsInside l (after (call + n) Up)) fresh inside;
    behind = λ j above small. later j above;
  }

-- a whole block, and one that the line's end cuts short
pub gives_whole : (up up' : LineState) (block : List ℕ) → length block ≡ 40 → ReadsBlock up up' Whole block → GivesBlock up up' block 40
gives_whole up up' block long reads = record {
  gives = subst (Gives up up') (sym (take_all 40 block (omega arith))) (record { read = reads.given; written = reads.written; later = reads.later });
  whole = long;
  bound = omega arith;
  ended = λ less. absurd (omega arith);
  calm = reads.stopped;
}

-- a part of a block
pub gives_front : (up up' : LineState) (block : List ℕ) (count : ℕ) → length block ≡ 40 → ReadsBlock up up' (Ended count) block → GivesBlock up up' block count
gives_front up up' block count long reads =
    let less : count < length block = reads.stopped.0 in
    record {
      gives = record { read = reads.given; written = reads.written; later = reads.later };
      whole = long;
      bound = omega arith;
      ended = λ _. reads.stopped.1;
      calm = reads.stopped.2;
    }
