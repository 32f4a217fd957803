-- What is known of a run, from round to round.
use Rattle.std.proofs.Common.{◌≡◌, sym, ap, ◌∙◌, subst, ℕ, ◌+◌, ◌≤◌, false, List, []}
use Rattle.std.proofs.lemmas.Bool.{and_parts}
use Rattle.std.specs.Prelude.{nat_lt}
use Rattle.trau_io.specs.declared.ends.CallEnd.{CallEnd}
use Rattle.switchboard.specs.Calls.{Done, is_open, gone_at}
use Rattle.switchboard.specs.Ends.{end_of}
use Rattle.switchboard.specs.State.{State, EndBefore}
use Rattle.farm_rounds.specs.declared.tally.Tally.{Tally}
use Rattle.run_spec.specs.Run.{Run, given_in, whole_in, done_in}
use Rattle.run_spec.proofs.Lists.{each_weaker}
use Rattle.farm_run.specs.declared.notes.SentBefore.{SentBefore}
use Rattle.farm_run.proofs.Rounds.Taken.{IsRound, places_in}
use Rattle.farm_run.proofs.Rounds.Outcome.{IsRoundEnd, EndsRound}
use Rattle.farm_run.specs.Noted.{call_end_in, IsKnown, IsNotedAt, TellsTruly}
use Rattle.farm_run.proofs.Rounds.Ends.{start_kept}
use Rattle.farm_run.proofs.Told.Boards.{told_done}
use Rattle.farm_run.proofs.Noted.Rounds.{noted_start, noted_jump, noted_round}
use Rattle.farm_run.proofs.Noted.Truly.{truly_start, truly_told}

-- nothing is known before the first order
pub known_start : (r : Run) (b : State) (tallies : List Tally) (ns : List SentBefore) →
    EndBefore 0 b → b.done ≡ [] → ns ≡ [] → IsKnown r 0 b tallies ns
known_start r b tallies ns ends none new = record {
  truly = truly_start r b ends;
  noted = subst (λ (ds : List Done). IsNotedAt r ds 0 ns tallies) (sym none)
      (subst (λ (k : List SentBefore). IsNotedAt r [] 0 k tallies) (sym new) (noted_start r 0 tallies));
}

-- while no call is open nothing comes to be known
pub known_idle : (r : Run) (t u : ℕ) (b : State) (tallies : List Tally) (ns : List SentBefore) → t ≤ u →
    ((c : ℕ) → is_open (gone_at (whole_in r) t b.done) b.done c ≡ false) →
    IsKnown r t b tallies ns → IsKnown r u b tallies ns
known_idle r t u b tallies ns later shut known = record { truly = known.truly; noted = noted_jump r t u b.done ns tallies later shut known.noted }

-- the end that a round tells of a call is the run's
right_end : (r : Run) (t n : ℕ) (b : State) → IsRound r t n b.done b.left → (e : CallEnd) →
    IsRoundEnd r b.done t n e → e ≡ call_end_in r e.call
right_end r t n b round e (within, is) =
    let opened = (and_parts (is_open (gone_at (whole_in r) t b.done) b.done e.call) (nat_lt (places_in r b.done t n e.call) n) within).0 in
    is ∙ ap (end_of (given_in r) r.periods (done_in r) e.call) (sym (start_kept r t n b.done b.left e.call round opened))

-- **After a round all is right that was told, noted and kept.**
pub known_round : (r : Run) (t n : ℕ) (b b' : State) (ns : List SentBefore) (tallies tallies' : List Tally) → IsRound r t n b.done b.left →
    EndsRound r t n b b' tallies tallies' → IsKnown r t b tallies ns → IsKnown r (t + n) b' tallies' ns
known_round r t n b b' ns tallies tallies' round over known =
    let ends = over.ends in
    let done : b'.done ≡ b.done = ap (λ (s : State). s.done) over.board ∙ told_done b ends in
    record {
      truly = subst (λ (s : State). TellsTruly r s) (sym over.board)
          (truly_told r b ends (each_weaker (IsRoundEnd r b.done t n) (λ e. e ≡ call_end_in r e.call) ends (right_end r t n b round) over.each) known.truly);
      noted = subst (λ (ds : List Done). IsNotedAt r ds (t + n) ns tallies') (sym done)
          (noted_round r t n b.done b.left ns tallies tallies' round known.noted over.tallies);
    }
