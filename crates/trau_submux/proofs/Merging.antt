-- Four channels, one block after another.
use Rattle.std.proofs.Common.{◌≡◌, inl, inr, ◌⊎◌, ℕ, ◌+◌, ◌-◌, ◌*◌, ◌/◌, ◌<◌, ◌≤◌, List, [], ◌++◌, length, take, get_or, refl, sym, ◌∙◌, ap, subst, arith}
use Rattle.std.proofs.Common.{length-append}
use Rattle.std.specs.Io.KnownBytes.{IsAtEnd}
use Rattle.std.proofs.KnownBytes.{Consumes-nil}
use Rattle.std.proofs.Math.Seq.{take-append-add}
use Rattle.std.proofs.lemmas.Bool.{cases_eq, cases_lt}
use Rattle.std.proofs.lemmas.List.{length-take, length-take-le, take_all}
use Rattle.trau_io.specs.declared.line.Line.{Line}
use Rattle.trau_io.specs.declared.line.Side.TheVariants.{Up, Out}
use Rattle.trau_io.specs.Lines.{LineState, Rose}
use Rattle.trau_io.specs.Transfer.{Gives}
use Rattle.trau_bits.specs.Bits.{bits_of}
use Rattle.trau_submux.specs.declared.join.BlockEnd.TheVariants as block
use Rattle.trau_submux.specs.declared.join.MergeEnd.TheVariants.{Done, LineFailed}
use Rattle.trau_submux.specs.Channels.{IsMerged}
use Rattle.trau_submux.specs.Lines.{Gains, GainsFront}
use Rattle.trau_submux.specs.Merges.{BlockEndsAs, FailsAt, Merges, Takes}
use Rattle.trau_submux.proofs.Merged.{merged-append}
use Rattle.trau_io.proofs.Given.{gives_on}
use Rattle.trau_submux.proofs.Gaining.{front_on, gains_on}
use Rattle.trau_submux.proofs.Pieces.{MergeSoFar, Piece, PieceHolds, length-merged}

module _ (u0 u1 u2 : ℕ → LineState) (o0 o1 o2 : LineState) (call n octets : ℕ) (so_far : MergeSoFar u0 u1 o0 o1 n octets) where
  module _ (t : Takes u1 u2) where
    -- what was given with this block
    abbrev joined : ℕ → List ℕ
    joined j = so_far.given j ++ t.given j

    gives_more : (j : ℕ) → j < 4 → Gives (u0 j) (u2 j) (joined j)
    gives_more j below = gives_on _ _ _ _ _ (so_far.gives j below) (t.each j below).gives

    calm_more : (j : ℕ) → j < 4 → (u2 j).faults ≡ (u0 j).faults
    calm_more j below = (t.each j below).calm ∙ so_far.calm j below

    merged_more : IsMerged (so_far.sent ++ t.octets) (λ j. so_far.given j ++ take t.used (t.given j))
    merged_more = merged-append so_far.sent t.octets so_far.given (λ j. take t.used (t.given j)) so_far.merged t.merged

    length-joined : (j : ℕ) → j < 4 → length (joined j) ≡ 40 * n + length (t.given j)
    length-joined j below = length-append (so_far.given j) (t.given j) ∙ ap (λ m. m + length (t.given j)) (so_far.whole j below)

    used-joined : (j : ℕ) → j < 4 → take (40 * n + t.used) (joined j) ≡ so_far.given j ++ take t.used (t.given j)
    used-joined j below = ap (λ m. take (m + t.used) (joined j)) (sym (so_far.whole j below)) ∙ take-append-add (so_far.given j) (t.given j) t.used

    -- a whole block more
    pub one_more : t.used ≡ 40 → Gains o1 o2 t.octets → MergeSoFar u0 u2 o0 o2 (n + 1) (octets + 160)
    one_more is gained =
        let all : (j : ℕ) → j < 4 → length (t.given j) ≡ 40 = λ j below. omega (arith, is, t.fewest.least j below, (t.each j below).bound) in
        record {
          given = joined;
          whole = λ j below. omega (arith, length-joined j below, all j below);
          octets_are = omega (arith, so_far.octets_are);
          gives = gives_more;
          calm = calm_more;
          sent = so_far.sent ++ t.octets;
          merged = record {
            are_octets = merged_more.are_octets;
            carries = λ j below. merged_more.carries j below
                ∙ ap (λ l. bits_of (so_far.given j ++ l)) (take_all t.used (t.given j) (omega (arith, is, all j below)));
          };
          gained = gains_on _ _ _ _ _ so_far.gained gained;
        }

    -- a block that a line ended in
    pub ended : (counts left : List ℕ) (used : ℕ) → n < 4294967295 → t.used < 40 → ((j : ℕ) → j < 4 → get_or counts j 0 ≡ length (t.given j)) →
        Gains o1 o2 t.octets →
        ((j : ℕ) → j < 4 → used ≤ get_or counts j 0) → ((j : ℕ) × (j < 4) × (used ≡ get_or counts j 0)) →
        ((j : ℕ) → j < 4 → get_or left j 0 ≡ get_or counts j 0 - used) →
        Merges u0 u2 o0 o2 call (Done (octets + 4 * used) left)
    ended counts left used few short told gained least one left_are =
        let same : used ≡ t.used = omega (
          arith,
          least t.fewest.one t.fewest.below,
          told t.fewest.one t.fewest.below,
          t.fewest.is,
          t.fewest.least one.0 one.1,
          told one.0 one.1,
          one.2,
        ) in
        record {
          given = joined;
          gives = gives_more;
          ends = record {
            used = 40 * n + t.used;
            read = record {
              fewest = record {
                least = λ j below. omega (arith, length-joined j below, t.fewest.least j below);
                one = t.fewest.one;
                below = t.fewest.below;
                is = omega (arith, length-joined t.fewest.one t.fewest.below, t.fewest.is);
              };
              few = omega (arith, few, short);
              last = inr (omega (arith, few, short), λ j below. last j below);
            };
            octets_are = omega (arith, so_far.octets_are, same);
            left_are = λ j below. omega (arith, left_are j below, told j below, length-joined j below, same);
            sent = so_far.sent ++ t.octets;
            merged = record { are_octets = merged_more.are_octets; carries = λ j below. merged_more.carries j below ∙ ap bits_of (sym (used-joined j below)) };
            gained = gains_on _ _ _ _ _ so_far.gained gained;
            calm = calm_more;
          };
        }
      where
        last : (j : ℕ) → j < 4 →
            (length (joined j) ≡ 40 * ((40 * n + t.used) / 40 + 1)) ⊎ ((length (joined j) < 40 * ((40 * n + t.used) / 40 + 1)) × IsAtEnd (u2 j).to_come)
        last j below =
            let blocks : (40 * n + t.used) / 40 ≡ n = omega (arith, short) in
            elim (cases_eq (length (t.given j)) 40) [
              | inl whole ↦ inl (omega (arith, blocks, whole, length-joined j below))
              | inr part ↦
                  let bound = (t.each j below).bound in
                  inr (omega (arith, blocks, part, bound, length-joined j below), (t.each j below).ended (omega (arith, part, bound)))
            ]

    -- the slot's line failed
    pub failed_to_write : n < 4294967295 → (line : Line) → line.call ≡ call → line.side ≡ Out → GainsFront o1 o2 t.octets →
        Merges u0 u2 o0 o2 call (LineFailed line)
    failed_to_write few line number side here = record {
      given = joined;
      gives = gives_more;
      ends = inr (record {
        number = number;
        side = side;
        earlier = so_far.given;
        last = t.given;
        before = record { number = n; few = omega arith; whole = so_far.whole; part = λ j below. (t.each j below).bound; split = λ j below. refl };
        ended = λ j below. (t.each j below).ended;
        used = t.used;
        fewest = t.fewest;
        sent = so_far.sent ++ t.octets;
        merged = merged_more;
        here = record {
          count = length so_far.sent + here.count;
          proper = omega (arith, here.proper, length-append so_far.sent t.octets);
          written = front_on o0 o1 o2 so_far.sent t.octets (so_far.sent ++ t.octets) here.count refl so_far.gained here.written;
          to_come = here.to_come ∙ so_far.gained.to_come;
          later = subst (λ m. m ≤ o2.faults) so_far.gained.calm here.later;
          rose = subst (λ m. Rose m o2.faults) so_far.gained.calm here.rose;
        };
        reached = omega (arith, length-merged so_far.sent so_far.given (40 * n) (so_far.whole 0 (omega arith)) so_far.merged);
        calm = calm_more;
      });
    }

  -- a line failed while the four were read
  module _ (k : ℕ) (at : FailsAt u1 u2 k) where
    -- what a line gave of the block
    piece : (j : ℕ) → Piece u1 u2 k j
    piece j = elim (cases_lt j k) [
      | inl less ↦
          let gave = (at.before j less).2 in
          record {
            list = take (at.before j less).1 (at.before j less).0;
            holds = λ below. record {
              gives = gave.gives;
              part = length-part (at.before j less).1 (at.before j less).0 gave.bound;
              unread = λ above. absurd (omega arith);
              fewer = λ e. absurd (omega arith);
              ended = λ _ short. gave.ended (omega (
                arith,
                short,
                gave.whole,
                gave.bound,
                length-take-le (at.before j less).1 (at.before j less).0 (omega (arith, gave.whole, gave.bound)),
              ));
              calm = λ ne. gave.calm;
            };
          }
      | inr more ↦ elim (cases_eq j k) [
        | inl e ↦ subst (Piece u1 u2 k) (sym e) (record {
          list = at.here.given;
          holds = λ below. record {
            gives = at.here.gives;
            part = omega (arith, at.here.part);
            unread = λ above. absurd (omega arith);
            fewer = λ _. at.here.part;
            ended = λ less _. absurd (omega arith);
            calm = λ ne. absurd (ne refl);
          };
        })
        | inr ne ↦ record { list = []; holds = λ below. untouched j (omega arith) (at.behind j (omega arith) below) }
      ]
    ]
      where
        length-part : (count : ℕ) (block : List ℕ) → count ≤ 40 → length (take count block) ≤ 40
        length-part count block bound = omega (arith, length-take count block, bound)

        untouched : (j : ℕ) → k < j → u2 j ≡ u1 j → PieceHolds u1 u2 k j []
        untouched j more same = record {
          gives = subst (λ l. Gives (u1 j) l []) (sym same) (record { read = Consumes-nil (u1 j).to_come; written = refl; later = omega arith });
          part = omega arith;
          unread = λ above. refl;
          fewer = λ _. omega arith;
          ended = λ less _. absurd (omega arith);
          calm = λ ne. ap (λ l. l.faults) same;
        }

    -- a channel's line failed
    pub failed_to_read : n < 4294967295 → (line : Line) → line.call ≡ call + k → line.side ≡ Up → o2 ≡ o1 → Merges u0 u2 o0 o2 call (LineFailed line)
    failed_to_read few line number side same = record {
      given = λ j. so_far.given j ++ (piece j).list;
      gives = λ j below. gives_on _ _ _ _ _ (so_far.gives j below) ((piece j).holds below).gives;
      ends = inl (record {
        failed = k;
        number = number;
        side = side;
        one = at.one;
        earlier = so_far.given;
        last = λ j. (piece j).list;
        before = record { number = n; few = omega arith; whole = so_far.whole; part = λ j below. ((piece j).holds below).part; split = λ j below. refl };
        part_failed = ((piece k).holds at.one).fewer refl;
        ended = λ j less. ((piece j).holds (omega (arith, less, at.one))).ended less;
        unread = λ j above below. ((piece j).holds below).unread above;
        sent = so_far.sent;
        merged = so_far.merged;
        gained = subst (λ l. Gains o0 l so_far.sent) (sym same) so_far.gained;
        rose = subst (λ m. Rose m (u2 k).faults) (so_far.calm k at.one) at.here.rose;
        calm = λ j below ne. ((piece j).holds below).calm ne ∙ so_far.calm j below;
      });
    }

  -- one block, and how it ended
  pub on_whole : BlockEndsAs u1 u2 o1 o2 call block.Whole → MergeSoFar u0 u2 o0 o2 (n + 1) (octets + 160)
  on_whole one = one_more one.0 one.1 one.2

  pub on_failed : n < 4294967295 → (line : Line) → BlockEndsAs u1 u2 o1 o2 call (block.Failed line) → Merges u0 u2 o0 o2 call (LineFailed line)
  on_failed few line (inl read) = failed_to_read read.0 read.3 few line read.1 read.2 read.4
  on_failed few line (inr write) = failed_to_write write.0 few line write.1 write.2 write.3
