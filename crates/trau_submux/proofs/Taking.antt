-- One block of four channels.
use Rattle.std.proofs.Common.{◌≡◌, ℕ, ◌+◌, ◌*◌, ◌<◌, ◌≤◌, List, [], length, take, take-take, get_or, Ok, Err, All, refl, sym, ◌∙◌, ap, subst, arith}
use Rattle.std.proofs.lemmas.List.{length-take-le}
use Rattle.trau_bits.specs.Bits.{bits_of}
use Rattle.trau_io.specs.declared.line.Side.{Side}
use Rattle.trau_io.specs.declared.line.Side.TheVariants.{Up, Out}
use Rattle.trau_io.specs.Lines.{LineState, OthersStay}
use Rattle.trau_io.specs.Transfer.{WritesAll}
use Rattle.trau_submux.specs.Channels.{IsMerged, subchannel}
use Rattle.trau_submux.specs.Lines.{AllButFour, Gains, GainsFront, channel_lines}
use Rattle.trau_submux.specs.Merges.{GivesBlock, GivesPart, Takes}
use Rattle.trau_submux.proofs.Merged.{merged-take}

module _ (before middle after : ℕ → Side → LineState) (call : ℕ) (subs : List (List ℕ)) (counts slot : List ℕ) (used : ℕ)
    (reads : (j : ℕ) → j < 4 → GivesBlock (before (call + j) Up) (middle (call + j) Up) (get_or subs j []) (get_or counts j 0))
    (read_others : AllButFour before middle call Up) (write_others : OthersStay middle after call Out)
    (least : (j : ℕ) → j < 4 → used ≤ get_or counts j 0) (one : (j : ℕ) × (j < 4) × (used ≡ get_or counts j 0))
    (long : length slot ≡ 160) (octets : All (λ x. x < 256) slot) (carries : (j : ℕ) → j < 4 → subchannel j slot ≡ bits_of (get_or subs j [])) where
  few : used ≤ 40
  few =
      let bound = (reads 0 (omega arith)).bound in
      let at_most = least 0 (omega arith) in
      omega arith

  -- the lines of the channels stay while the slot is written
  ups_stay : (j : ℕ) → after (call + j) Up ≡ middle (call + j) Up
  ups_stay j = write_others (call + j) Up (λ e f. absurd (cc))

  out_stays : middle call Out ≡ before call Out
  out_stays = read_others call Out (λ j below e f. absurd (cc))

  -- how much each line gave
  length_given : (j : ℕ) → j < 4 → length (take (get_or counts j 0) (get_or subs j [])) ≡ get_or counts j 0
  length_given j below = let block = reads j below in length-take-le (get_or counts j 0) (get_or subs j []) (omega (arith, block.whole, block.bound))

  part : (j : ℕ) → j < 4 → GivesPart (before (call + j) Up) (after (call + j) Up) (take (get_or counts j 0) (get_or subs j []))
  part j below =
      let block = reads j below in
      let n = length_given j below in
      subst (λ l. GivesPart (before (call + j) Up) l (take (get_or counts j 0) (get_or subs j []))) (sym (ups_stay j)) (record {
        gives = block.gives;
        bound = omega (arith, n, block.bound);
        ended = λ less. block.ended (omega (arith, n, less));
        calm = block.calm;
      })

  -- what is written is merged of it
  merged : IsMerged (take (4 * used) slot) (λ j. take used (take (get_or counts j 0) (get_or subs j [])))
  merged =
      let all : IsMerged slot (λ j. get_or subs j []) = record { are_octets = octets; carries = carries } in
      let front = merged-take slot (λ j. get_or subs j []) used long few (λ j below. (reads j below).whole) all in
      record {
        are_octets = front.are_octets;
        carries = λ j below. front.carries j below ∙ ap bits_of (sym (take-take used (get_or counts j 0) (get_or subs j []) (least j below)));
      }

  -- the block is taken
  abbrev takes : Takes (channel_lines before call Up) (channel_lines after call Up)
  takes = record {
    given = λ j. take (get_or counts j 0) (get_or subs j []);
    each = part;
    used = used;
    fewest = record {
      least = λ j below. omega (arith, least j below, length_given j below);
      one = one.0;
      below = one.1;
      is = one.2 ∙ sym (length_given one.0 one.1);
    };
    octets = take (4 * used) slot;
    merged = merged;
  }

  -- the slot gained it
  gains : WritesAll (middle call Out) (after call Out) (Ok tt) (take (4 * used) slot) → Gains (before call Out) (after call Out) (take (4 * used) slot)
  gains writes = subst (λ l. Gains l (after call Out) (take (4 * used) slot)) out_stays
      (record { written = writes.ok; to_come = writes.to_come; calm = writes.cause.ok })

  -- the whole block, a part of it, or the fault
  pub whole : used ≡ 40 → WritesAll (middle call Out) (after call Out) (Ok tt) (take (4 * used) slot) →
      (t : Takes (channel_lines before call Up) (channel_lines after call Up)) × (t.used ≡ 40) × Gains (before call Out) (after call Out) t.octets
  whole is writes = (takes, is, gains writes)

  pub ended : (used ≡ 40 → ⊥) → WritesAll (middle call Out) (after call Out) (Ok tt) (take (4 * used) slot) →
      (t : Takes (channel_lines before call Up) (channel_lines after call Up)) × (t.used < 40) × ((j : ℕ) → j < 4 → get_or counts j 0 ≡ length (t.given j))
      × Gains (before call Out) (after call Out) t.octets
  ended is writes = (takes, omega (arith, few, is), λ j below. sym (length_given j below), gains writes)

  pub failed : WritesAll (middle call Out) (after call Out) (Err (record {})) (take (4 * used) slot) →
      (t : Takes (channel_lines before call Up) (channel_lines after call Up)) × (call ≡ call) × (Out ≡ Out)
      × GainsFront (before call Out) (after call Out) t.octets
  failed writes = (
    takes,
    refl,
    refl,
    subst (λ l. GainsFront l (after call Out) (take (4 * used) slot)) out_stays
        (record { count = writes.err.0; proper = writes.err.1; written = writes.err.2; to_come = writes.to_come; later = writes.cause.later; rose = writes.cause.failed }),
  )
