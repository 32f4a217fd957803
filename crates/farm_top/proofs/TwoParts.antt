-- What a run to the mark's period leaves on a line, and what a run from the mark on gained there, are together what one
-- run writes.
use Rattle.std.proofs.Common.{◌≡◌, ℕ, ◌*◌, Bool, true, false, List, [], ◌++◌, drop, refl, sym, ◌∙◌, ap, subst, arith}
use Rattle.std.specs.Prelude.{is_some}
use Rattle.std.specs.Io.KnownBytes.{Appends}
use Rattle.std.proofs.KnownBytes.{Appends-nil}
use Rattle.std.proofs.lemmas.Bool.{true≢false}
use Rattle.trau_io.specs.declared.line.Side.{Side}
use Rattle.trau_io.specs.declared.line.Side.TheVariants.{Up, Pcm, Down, Out}
use Rattle.trau_io.specs.Lines.{LineState}
use Rattle.trau_orders.specs.declared.order.Order.{Order}
use Rattle.round_lines.specs.Rounds.{IsIncoming}
use Rattle.switchboard.specs.Calls.{opened_at}
use Rattle.run_spec.specs.Run.{Run, done_in, IsOpened, worked_to}
use Rattle.run_spec.specs.Lines.{out_of_call, down_of_call}
use Rattle.run_spec.specs.Mark.{Joins, cut_at}
use Rattle.farm_run.specs.Runs.{IsRunOver, Leaves, none_fails}
use Rattle.farm_run.specs.Resuming.{LeavesFrom}
use Rattle.farm_top.specs.ResumeEnded.{Together}

-- a line that is as it was gained nothing
unchanged : (first saved : LineState) → saved ≡ first → Appends first.written saved.written []
unchanged first saved same = subst (λ (l : LineState). Appends first.written l.written []) (sym same) (Appends-nil first.written)

-- A line gains its octets in two parts: of a call that the first part opened a front and the others, of another one all
-- in the second.
two_parts : (first saved before now : LineState) (opened : Bool) (front octets : List ℕ) (n : ℕ) → (opened ≡ true → Appends first.written saved.written front) →
    (opened ≡ true → octets ≡ front ++ drop n octets) → (opened ≡ false → (saved ≡ first) × (n ≡ 0)) → Appends before.written now.written (drop n octets) →
    Together first saved before now octets
two_parts first saved before now true front octets n gains joins later gained =
    record { front = front; rest = drop n octets; gained_first = gains refl; gained = gained; whole = sym (joins refl) }
two_parts first saved before now false front octets n gains joins later gained =
    let stays = later refl in
    record { front = []; rest = drop n octets; gained_first = unchanged first saved stays.0; gained = gained; whole = ap (λ k. drop k octets) stays.1 }

module _ (r : Run) (from : ℕ) (before now first saved : ℕ → Side → LineState) (joins : Joins r from) where
  -- over lines whose incoming ones tell the same, the run to the mark's period is this run, cut there
  pub run_of_first : (orders : List Order) (n : ℕ) → IsRunOver orders n none_fails before now r →
      ((c : ℕ) (s : Side) → IsIncoming s → (first c s).to_come ≡ (before c s).to_come) → IsRunOver orders from none_fails first saved (cut_at from r)
  run_of_first orders n over same = record {
    same_orders = over.same_orders;
    same_periods = refl;
    up = λ c is. same c Up tt ∙ over.up c (joins.opened c is);
    pcm = λ c is. same c Pcm tt ∙ over.pcm c (joins.opened c is);
    up_failed = over.up_failed;
    pcm_failed = over.pcm_failed;
  }

  module _ (left : Leaves (cut_at from r) none_fails first saved) (leaves : LeavesFrom r from none_fails before now) (c : ℕ) where
    -- the first part didn't open the call
    shut : is_some (opened_at c (done_in (cut_at from r))) ≡ false → IsOpened (cut_at from r) c → ⊥
    shut none is = true≢false (sym is ∙ none)

    pub out_whole : IsOpened r c → Together (first c Out) (saved c Out) (before c Out) (now c Out) (out_of_call r c)
    out_whole is = two_parts (first c Out) (saved c Out) (before c Out) (now c Out) (is_some (opened_at c (done_in (cut_at from r))))
        (out_of_call (cut_at from r) c) (out_of_call r c) (160 * worked_to r from c) (left.out c) (joins.out c)
        (λ none. (left.others c Out (shut none), (let none_before = joins.later c is (shut none) in omega (arith, none_before)))) (leaves.out c is)

    pub down_whole : IsOpened r c → Together (first c Down) (saved c Down) (before c Down) (now c Down) (down_of_call r c)
    down_whole is = two_parts (first c Down) (saved c Down) (before c Down) (now c Down) (is_some (opened_at c (done_in (cut_at from r))))
        (down_of_call (cut_at from r) c) (down_of_call r c) (40 * worked_to r from c) (left.down c) (joins.down c)
        (λ none. (left.others c Down (shut none), (let none_before = joins.later c is (shut none) in omega (arith, none_before)))) (leaves.down c is)

    -- the lines of a call that the whole run doesn't open stayed in both parts
    pub both_stay : (s : Side) → (IsOpened r c → ⊥) → (saved c s ≡ first c s) × (now c s ≡ before c s)
    both_stay s not = (left.others c s (λ is. not (joins.opened c is)), leaves.others c s not)
