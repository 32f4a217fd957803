-- What is noted of a run, where calls end, and where orders come that neither open a call nor bridge two.
use Rattle.std.proofs.Common.{◌≡◌, refl, sym, ◌∙◌, subst, ℕ, Bool, true, false, ◌||◌, Some, List, [], map}
use Rattle.switchboard.specs.declared.table.Bridge.{Bridge}
use Rattle.switchboard.specs.Calls.{Done}
use Rattle.switchboard.specs.Bridges.{bridges}
use Rattle.switchboard.specs.Stands.{IsLatest}
use Rattle.switchboard.proofs.Orders.OneMore.{after}
use Rattle.farm_rounds.specs.declared.tally.Tally.{Tally}
use Rattle.run_spec.specs.Run.{Run}
use Rattle.farm_run.specs.declared.notes.SentBefore.{SentBefore}
use Rattle.farm_run.specs.Noted.{is_opened, sent_in_bridge, AreNotes, IsKept, IsNoted}
use Rattle.farm_run.proofs.Noted.Bridges.{latest_before, notes_after}

-- one of two facts holds where the other doesn't
left_true : (a b : Bool) → b ≡ false → (a || b) ≡ true → a ≡ true
left_true true b e h = refl
left_true false b e h = cc

-- the second test is met where the first isn't
pub right_true : (a b : Bool) → a ≡ false → (a || b) ≡ true → b ≡ true
right_true false b e h = h
right_true true b e h = cc

-- ---- ends

-- **More calls have ended: what is kept of them is right.**
pub noted_ends : (r : Run) (ds : List Done) (ended more : ℕ → Bool) (notes : List SentBefore)
    (tally tally' : ℕ → Tally) → IsNoted r ds ended notes tally →
    ((c : ℕ) → more c ≡ true → IsKept r ds c (tally' c)) → ((c : ℕ) → more c ≡ false → tally' c ≡ tally c) →
    IsNoted r ds (λ c. ended c || more c) notes tally'
noted_ends r ds ended more notes tally tally' n kept same = record {
  numbers = n.numbers;
  bridges = n.bridges;
  kept = λ c h. by c (more c) refl h;
}
  where
    by : (c : ℕ) (b : Bool) → more c ≡ b → (ended c || more c) ≡ true → IsKept r ds c (tally' c)
    by c true q h = kept c q
    by c false q h = subst (IsKept r ds c) (sym (same c q)) (n.kept c (left_true (ended c) (more c) q h))

-- **If the same calls have ended and the same is kept of them, what is noted stays right.**
pub noted_same : (r : Run) (ds : List Done) (ended now : ℕ → Bool) (notes : List SentBefore)
    (tally tally' : ℕ → Tally) → IsNoted r ds ended notes tally →
    ((c : ℕ) → now c ≡ ended c) → ((c : ℕ) → tally' c ≡ tally c) →
    IsNoted r ds now notes tally'
noted_same r ds ended now notes tally tally' n e f = record {
  numbers = n.numbers;
  bridges = n.bridges;
  kept = λ c h. subst (IsKept r ds c) (sym (f c)) (n.kept c (sym (e c) ∙ h));
}

-- ---- an order that neither opens a call nor makes a bridge

-- what is kept of a call stays right where an order makes no bridge of it
pub kept_after : (r : Run) (ds now : List Done) (d : Done) (c : ℕ) (x : Tally) →
    bridges now ≡ map (after d) (bridges ds) → IsKept r ds c x → IsKept r now c x
kept_after r ds now d c x all k = record {
  counts = k.counts;
  sent = λ i l. k.sent i (latest_before d (bridges ds) c i (subst (λ (bs : List Bridge). IsLatest bs c (Some i)) all l));
}

-- the notes stay right where an order makes no bridge
pub notes_kept : (r : Run) (ds now : List Done) (d : Done) (ns : List SentBefore) → bridges now ≡ map (after d) (bridges ds) →
    AreNotes (sent_in_bridge r) [] (bridges ds) ns → AreNotes (sent_in_bridge r) [] (bridges now) ns
notes_kept r ds now d ns all a =
    subst (λ (bs : List Bridge). AreNotes (sent_in_bridge r) [] bs ns) (sym all) (notes_after (sent_in_bridge r) d [] (bridges ds) ns a)

-- the same calls were opened, and there are the same bridges, of which the order may have ended some
pub record AreSame (ds now : List Done) : Type 0 where
  pub opened : (c : ℕ) → is_opened now c ≡ is_opened ds c
  pub order : Done
  pub bridges : bridges now ≡ map (after order) (bridges ds)

-- **Such an order changes nothing of what is noted.**
pub noted_ordered : (r : Run) (ds now : List Done) (ended : ℕ → Bool) (notes : List SentBefore) (tally : ℕ → Tally) → AreSame ds now →
    IsNoted r ds ended notes tally → IsNoted r now ended notes tally
noted_ordered r ds now ended notes tally h n = record {
  numbers = λ c o. n.numbers c (sym (h.opened c) ∙ o);
  bridges = notes_kept r ds now h.order notes h.bridges n.bridges;
  kept = λ c e. kept_after r ds now h.order c (tally c) h.bridges (n.kept c e);
}
