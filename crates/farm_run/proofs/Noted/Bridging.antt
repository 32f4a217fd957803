-- Two calls are bridged: what is noted of it.
use Rattle.std.proofs.Common.{◌≡◌, refl, sym, ap, ◌∙◌, subst, ℕ, Bool, true, false, ◌||◌, Some, List, [], ◌∷◌, ◌++◌, map}
use Rattle.std.specs.Prelude.{◌==◌, if◌then◌else◌}
use Rattle.std.proofs.lemmas.Bool.{eqb-true, ne_eqb, or_from}
use Rattle.switchboard.specs.declared.table.Bridge.{Bridge}
use Rattle.switchboard.specs.Calls.{Done}
use Rattle.switchboard.specs.Bridges.{bridges, joins}
use Rattle.switchboard.specs.Stands.{IsLatest}
use Rattle.switchboard.proofs.Orders.OneMore.{after}
use Rattle.farm_rounds.specs.declared.tally.Tally.{Tally}
use Rattle.run_spec.specs.Run.{Run}
use Rattle.farm_run.specs.declared.notes.SentBefore.{SentBefore}
use Rattle.farm_run.specs.Noted.{is_opened, sent_in_bridge, sent_before, AreNotes, IsKept, IsNoted}
use Rattle.farm_run.proofs.Listed.Tests.{no}
use Rattle.farm_run.proofs.Noted.Noting.{right_true}
use Rattle.farm_run.proofs.Noted.Latest.{latest_pop}
use Rattle.farm_run.proofs.Noted.Bridges.{latest_before, notes_after, notes_push}

-- an order that made a bridge of a and b, the last one
pub record IsBridging (ds now : List Done) (a b : ℕ) : Type 0 where
  pub opened : (c : ℕ) → is_opened now c ≡ is_opened ds c
  pub order : Done
  pub last : Bridge
  pub all : bridges now ≡ map (after order) (bridges ds) ++ last ∷ []
  pub calls : (last.a ≡ a) × (last.b ≡ b)

-- **What its calls have sent in their bridges before it is noted.**
module _ (r : Run) (ds now : List Done) (ended : ℕ → Bool) (ns : List SentBefore)
    (tally : ℕ → Tally) (a b : ℕ) (sent : ℕ → ℕ) (h : IsBridging ds now a b)
    (f : (ended a ≡ false) × (ended b ≡ false)) (n : IsNoted r ds ended ns tally)
    (right : (c k : ℕ) → (c == a || c == b) ≡ true → IsLatest (bridges ds) c (Some k) → sent c ≡ sent_in_bridge r k c) where
  -- what is noted of it
  abbrev note : SentBefore
  note = record { by_a = sent a; by_b = sent b }

  -- the bridge is of its two calls
  joins_last : (c : ℕ) → joins c h.last ≡ (c == a || c == b)
  joins_last c = ap (λ (x : ℕ). c == x || c == (h.last).b) h.calls.0 ∙ ap (λ (x : ℕ). c == a || c == x) h.calls.1

  -- the note tells what a call of it has sent
  tells : (c : ℕ) → (c == a || c == b) ≡ true → sent_before c h.last note ≡ sent c
  tells c e = ap (λ (x : ℕ). if c == x then sent a else sent b) h.calls.0 ∙ by (c == a) refl
    where
      by : (p : Bool) → (c == a) ≡ p → (if p then sent a else sent b) ≡ sent c
      by true q = ap sent (sym (eqb-true c a q))
      by false q = ap sent (sym (eqb-true c b (right_true (c == a) (c == b) q e)))

  -- the notes with this one are right
  notes : AreNotes (sent_in_bridge r) [] (bridges now) (ns ++ note ∷ [])
  notes =
      subst (λ (bs : List Bridge). AreNotes (sent_in_bridge r) [] bs (ns ++ note ∷ [])) (sym h.all)
      (notes_push (sent_in_bridge r) [] (map (after h.order) (bridges ds)) ns h.last note
      (notes_after (sent_in_bridge r) h.order [] (bridges ds) ns n.bridges)
      (λ c k m l. let e = sym (joins_last c) ∙ m in tells c e ∙ right c k e (latest_before h.order (bridges ds) c k l)))

  -- a call that has ended isn't in it
  kept : (c : ℕ) → ended c ≡ true → IsKept r now c (tally c)
  kept c g =
      let k = n.kept c g in
      let neither = or_from (c == a) (c == b) (ne_eqb c a (λ q. no (ended a) f.0 (ap ended (sym q) ∙ g)))
      (ne_eqb c b (λ q. no (ended b) f.1 (ap ended (sym q) ∙ g))) in
      record {
        counts = k.counts;
        sent = λ i l.
            k.sent i (latest_before h.order (bridges ds) c i (latest_pop (map (after h.order) (bridges ds)) h.last c i (joins_last c ∙ neither)
            (subst (λ (bs : List Bridge). IsLatest bs c (Some i)) h.all l)));
      }

  -- **All that is to be noted of the bridge is.**
  pub noted_bridged : IsNoted r now ended (ns ++ note ∷ []) tally
  noted_bridged = record { numbers = λ c o. n.numbers c (sym (h.opened c) ∙ o); bridges = notes; kept = kept }
