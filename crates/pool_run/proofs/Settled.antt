-- The lists' room for what settled workers still have.
use Rattle.std.proofs.Common.{◌≡◌, ◌≤◌, ℕ, suc, ◌+◌, List, [], ◌∷◌, ◌++◌, map, All, vec_len, ap, subst, arith, length, sym}
use Rattle.std.specs.Global.{Vec, Box}
use Rattle.std.proofs.lemmas.List.{length-map}
use Rattle.std.proofs.Math.ListN.{take}
use Rattle.trau_num.proofs.Lists.{written_back}
use Rattle.crossbeam_deque.specs.Handles.{view, worker_view}
use Rattle.pool_run.specs.declared.deque.Task.{Task}
use Rattle.pool_run.specs.declared.member.Member.{Member}
use Rattle.trau_num.specs.Weights.{weigh}
use Rattle.pool_run.specs.Deque.{entry_of}
use Rattle.pool_run.specs.Member.{Knower, obtained}
use Rattle.pool_run.specs.Pool.{IsOwner, IsSettled, all_given, all_obtained, entries_from}
use Rattle.pool_run.proofs.Orders.{entries_count}
use Rattle.pool_run.proofs.Weights.{weigh_all}

module _ {W : Type 0} (finish : W → W) where
  -- each entry counts as one
  abbrev pub one : ℕ × W → ℕ
  one e = 1

  pub count_tasks : (v : Vec (Task W)) → weigh one (map (entry_of finish) v.items) ≡ vec_len v
  count_tasks v = omega (arith, weigh_all (map (entry_of finish) v.items), length-map v.items (entry_of finish), v.ok.0)

  -- without passes
  pub obtained_alone : (m : Member W) (h : ℕ × W → ℕ) → IsOwner m → obtained h m ≡ weigh h (worker_view m.own).obtained
  obtained_alone m h owner = omega (arith, ap (weigh (λ (p : Knower W). weigh h (view p).obtained)) owner.joined)

  covered_all : (ms : List (Member W)) (h : ℕ × W → ℕ) → All (IsSettled finish) ms → all_obtained h ms ≤ all_given finish h ms
  covered_all [] h settled = omega arith
  covered_all (m ∷ ms) h settled =
      let first = settled 0 m (omega arith) in
      omega (arith, first.covered h, obtained_alone m h first.owner, covered_all ms h (λ k d lt. settled (suc k) d (omega arith)))

  -- the room for what the first worker has, and for what the others have then
  module _ (all : List (Member W)) (m : Member W) (rest : List (Member W)) (len cap : ℕ) (is : all ≡ m ∷ rest) (settled : All (IsSettled finish) all)
      (room : len + all_given finish one all ≤ all_obtained one all + cap) where
    pub settled_each : All (IsSettled finish) (m ∷ rest)
    settled_each = subst (All (IsSettled finish)) is settled

    pub settled_first : IsSettled finish m
    settled_first = settled_each 0 m (omega arith)

    pub settled_rest : All (IsSettled finish) rest
    settled_rest k d lt = settled_each (suc k) d (omega arith)

    room_each : len + all_given finish one (m ∷ rest) ≤ all_obtained one (m ∷ rest) + cap
    room_each = subst (λ (ms : List (Member W)). len + all_given finish one ms ≤ all_obtained one ms + cap) is room

    pub room_left : len + vec_len m.done + weigh one (worker_view m.own).pushed ≤ weigh one (worker_view m.own).obtained + cap
    room_left = omega (arith, room_each, covered_all rest one settled_rest, obtained_alone m one settled_first.owner, count_tasks m.done)

    pub room_done : len + vec_len m.done ≤ cap
    room_done = omega (arith, room_left, settled_first.covered one)

    pub room_rest : (more : ℕ) → more + weigh one (worker_view m.own).obtained ≡ len + vec_len m.done + weigh one (worker_view m.own).pushed →
        more + all_given finish one rest ≤ all_obtained one rest + cap
    room_rest more e = omega (arith, room_each, obtained_alone m one settled_first.owner, count_tasks m.done)

-- what was placed, and the workers read back
module _ {W : Type 0} (finish : W → W) (ns after : List (Member W)) (n : ℕ) (len : length ns ≡ n) (bs : List (Box W))
    (entries : (h : ℕ × W → ℕ) → all_given finish h ns ≡ all_obtained h ns + weigh h (entries_from finish 0 bs)) where
  pub entries_back : (h : ℕ × W → ℕ) → all_given finish h (take n (ns ++ after)) ≡ all_obtained h (take n (ns ++ after)) + weigh h (entries_from finish 0 bs)
  entries_back h =
      subst (λ (ms : List (Member W)). all_given finish h ms ≡ all_obtained h ms + weigh h (entries_from finish 0 bs)) (sym (written_back ns after n len))
      (entries h)

  pub count_back : all_given finish (one finish) (take n (ns ++ after)) ≡ all_obtained (one finish) (take n (ns ++ after)) + length bs
  count_back = omega (arith, entries_back (one finish), entries_count finish 0 bs)
