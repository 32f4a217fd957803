-- What an order that ends a bridge keeps of the table.
use Rattle.std.proofs.Common.{◌≡◌, refl, sym, ap, ◌∙◌, subst, ℕ, ◌<◌, ◌≢◌, true, Option, Some, None, List, length, map, get_or, set, arith, inl, inr}
use Rattle.std.specs.Prelude.{option_map}
use Rattle.std.specs.List.{insert}
use Rattle.std.proofs.lemmas.Bool.{cases_eq}
use Rattle.std.proofs.lemmas.List.{length-map, length-set, get_or-set_same, get_or-set_other, map-set}
use Rattle.switchboard.specs.declared.act.Span.{Span}
use Rattle.switchboard.specs.declared.table.Bridge.{Bridge}
use Rattle.switchboard.specs.Bridges.{joins, no_bridge}
use Rattle.switchboard.specs.Rows.{Rows, bridge_at_place, is_live_in, bridge_end_in, span_in, position_in, parted_at, gone_from_in}
use Rattle.switchboard.specs.Ends.{least, span_to}
use Rattle.switchboard.specs.Stands.{IsLatest, IsSound, IsTable}
use Rattle.switchboard.proofs.Lists.{somes, filter_map-somes, somes-insert, not_both}
use Rattle.switchboard.proofs.Spans.{position-somes, span_at}
use Rattle.switchboard.proofs.Tables.Known.{open_parts, live_parts, live-no_end, over-not_live}
use Rattle.switchboard.proofs.Orders.Steps.{part_kept}

-- ---- an order ends a bridge

-- the latest bridge of each call stays, after one is ended
latest_parted : (bs : List Bridge) (k t c : ℕ) (o : Option ℕ) → IsLatest bs c o → IsLatest (set bs k (record (get_or bs k no_bridge) { ended = Some t })) c o
latest_parted bs k t c None l =
    let y : Bridge = record (get_or bs k no_bridge) { ended = Some t } in
    let n = length-set bs k y in
    λ j h. part_kept (joins c) no_bridge bs k y refl j ∙ l j (omega arith)
latest_parted bs k t c (Some p) l =
    let y : Bridge = record (get_or bs k no_bridge) { ended = Some t } in
    let n = length-set bs k y in
    (omega (arith, l.0), part_kept (joins c) no_bridge bs k y refl p ∙ l.1, λ j h i. part_kept (joins c) no_bridge bs k y refl j ∙ l.2 j h (omega arith))

pub table_parted : (r : Rows) (t k : ℕ) → IsTable r t → k < length r.bridges → is_live_in r (bridge_at_place r k) ≡ true → IsTable (parted_at r t k) t
table_parted r t k s lk live =
    let x = bridge_at_place r k in
    let y : Bridge = record x { ended = Some t } in
    let n : Rows = parted_at r t k in
    let len = length-set r.bridges k y in
    let parts = live_parts r x live in
    let ga = open_parts _ _ _ parts.1 in
    let gb = open_parts _ _ _ parts.2 in
    let end : bridge_end_in r y ≡ Some t = ap (λ o. least (Some t) (least o (gone_from_in r x.b))) ga.2 ∙ ap (λ o. least (Some t) o) gb.2 in
    let os : List (Option Span) = map (span_in r) r.bridges in
    record {
      latest = λ c h. latest_parted r.bridges k t c _ (s.latest c h);
      sound = λ j l. elim (cases_eq j k) [
        | inl p ↦ subst (λ (z : Bridge). IsSound n t z) (sym (ap (λ i. get_or n.bridges i no_bridge) p ∙ get_or-set_same r.bridges k y no_bridge lk)) (record {
          from = (s.sound k lk).from;
          apart = (s.sound k lk).apart;
          known = (s.sound k lk).known;
          ended = λ u e. let q : t ≡ u = cc in (end ∙ e, omega arith);
          lasts = λ e. absurd (let q = end in cc);
        })
        | inr p ↦ let q = s.sound j (omega arith) in subst (λ (z : Bridge). IsSound n t z) (sym (get_or-set_other r.bridges k j y no_bridge p))
            (record { from = q.from; apart = q.apart; known = q.known; ended = q.ended; lasts = q.lasts })
      ];
      over = λ c i j h l p q.
          let lj : j < length r.bridges = omega arith in
          let p' = sym (part_kept (joins c) no_bridge r.bridges k y refl i) ∙ p in
          let q' = sym (part_kept (joins c) no_bridge r.bridges k y refl j) ∙ q in
          let o = s.over c i j h lj p' q' in
          let ne : i ≢ k = λ e. not_both _ (over-not_live r _ _ o) (ap (λ i. is_live_in r (bridge_at_place r i)) e ∙ live) in
          let f = part_kept (λ (z : Bridge). z.from) no_bridge r.bridges k y refl j in
          record { at = o.at; ended = ap (bridge_end_in r) (get_or-set_other r.bridges k i y no_bridge ne) ∙ o.ended; before = omega (arith, o.before) };
      untold = s.untold;
      unused = s.unused;
      shut = λ c u j e l q.
          let lj : j < length r.bridges = omega arith in
          let q' = sym (part_kept (joins c) no_bridge r.bridges k y refl j) ∙ q in
          let o = s.shut c u j e lj q' in
          let ne : j ≢ k = λ p. not_both _ (over-not_live r _ _ o) (ap (λ i. is_live_in r (bridge_at_place r i)) p ∙ live) in
          record { at = o.at; ended = ap (bridge_end_in r) (get_or-set_other r.bridges k j y no_bridge ne) ∙ o.ended; before = o.before };
      spans =
          ap (λ z. insert z (position_in r k) (span_to x t)) (s.spans ∙ filter_map-somes (span_in r) r.bridges)
          ∙ ap (λ z. insert (somes os) z (span_to x t)) (position-somes r k)
          ∙ sym (filter_map-somes (span_in r) (set r.bridges k y)
          ∙ ap somes (map-set (span_in r) r.bridges k y ∙ ap (λ o. set os k (option_map (span_to y) o)) end)
          ∙ somes-insert os k (span_to x t) (omega (arith, length-map r.bridges (span_in r))) (span_at r k None lk (live-no_end r x live)));
    }
