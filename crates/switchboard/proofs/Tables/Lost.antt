-- What the end of a call by its lines keeps of the table.
use Rattle.std.proofs.Common.{◌≡◌, refl, sym, ap, ◌∙◌, subst, ℕ, zero, suc, ◌<◌, ◌≤◌, ◌≢◌, min, Bool, true, false, Option, Some, None, List, [], ◌∷◌, length}
use Rattle.std.proofs.Common.{map, get_or, set, arith, inl, inr}
use Rattle.std.specs.Prelude.{nat_lt, if◌then◌else◌, is_some, option_map}
use Rattle.std.specs.List.{filter_map, insert}
use Rattle.std.proofs.lemmas.Bool.{ltb-true, ltb-false, cases_Bool, cases_eq, cases_order}
use Rattle.std.proofs.lemmas.List.{get_or_default, length-map, get_or-set_same, get_or-set_other}
use Rattle.trau_io.specs.declared.ends.CallEnd.{CallEnd}
use Rattle.switchboard.specs.declared.act.Span.{Span}
use Rattle.switchboard.specs.declared.table.Bridge.{Bridge}
use Rattle.switchboard.specs.declared.table.Call.{Call}
use Rattle.switchboard.specs.Bridges.{joins, no_bridge}
use Rattle.switchboard.specs.Rows.{Rows, never, call_in, bridge_at_place, is_open_in, bridge_end_in, span_in, position_in, call_ended_in, spans_after}
use Rattle.switchboard.specs.Rows.{gone_from_in, gone_from}
use Rattle.switchboard.specs.Ends.{least, span_to}
use Rattle.switchboard.specs.Stands.{IsLatest, IsTable}
use Rattle.switchboard.proofs.Lists.{somes, filter_map-somes, somes-insert, somes-set, not_both}
use Rattle.switchboard.proofs.Spans.{position-somes, span_at}
use Rattle.switchboard.proofs.Tables.Known.{open_parts}
use Rattle.switchboard.proofs.Orders.Steps.{field_kept, filter_map_same}
use Rattle.switchboard.proofs.Tables.Calls.{joins_left, joins_right, joins_cases, unused_set, some_not_none, open_other, least_a, least_b, least_ab, least_never}

-- ---- a call's lines end it

-- the row of the call whose lines ended it
lost_same : (r : Rows) (end : CallEnd) (k : ℕ) → end.call < length r.calls → k ≡ end.call → gone_from_in (call_ended_in r end) k ≡ Some end.at
lost_same r end k l e = ap (λ (k : ℕ). gone_from_in (call_ended_in r end) k) e
    ∙ ap gone_from (get_or-set_same r.calls end.call (record (call_in r end.call) { gone = Some end }) never l)

-- the rows of the others
lost_other : (r : Rows) (end : CallEnd) (k : ℕ) → k ≢ end.call → call_in (call_ended_in r end) k ≡ call_in r k
lost_other r end k n = get_or-set_other r.calls end.call k (record (call_in r end.call) { gone = Some end }) never n

-- a bridge that doesn't join a call has it on no side
pub lost_apart : (c : ℕ) (x : Bridge) → joins c x ≡ false → (x.a ≢ c) × (x.b ≢ c)
lost_apart c x e = (λ p. not_both _ e (joins_left c x (sym p)), λ p. not_both _ e (joins_right c x (sym p)))

-- a bridge that doesn't join the call keeps its end
pub lost_end_other : (r : Rows) (end : CallEnd) (x : Bridge) → joins end.call x ≡ false → bridge_end_in (call_ended_in r end) x ≡ bridge_end_in r x
lost_end_other r end x e =
    let n = lost_apart end.call x e in
    ap (λ (y : Call). least x.ended (least (gone_from y) (gone_from_in (call_ended_in r end) x.b))) (lost_other r end x.a n.0)
    ∙ ap (λ (y : Call). least x.ended (least (gone_from_in r x.a) (gone_from y))) (lost_other r end x.b n.1)

-- the end of a bridge of the call is lowered
pub lost_end : (r : Rows) (end : CallEnd) (x : Bridge) → end.call < length r.calls →
    gone_from_in r end.call ≡ None → joins end.call x ≡ true → bridge_end_in (call_ended_in r end) x ≡ least (bridge_end_in r x) (Some end.at)
lost_end r end x l g j =
    let n : Rows = call_ended_in r end in
    elim (cases_eq x.a end.call) [
      | inl p ↦
          let ga = lost_same r end x.a l p in
          let oa : gone_from_in r x.a ≡ None = ap (λ (k : ℕ). gone_from_in r k) p ∙ g in
          elim (cases_eq x.b end.call) [
            | inl q ↦
                let gb = lost_same r end x.b l q in
                let ob : gone_from_in r x.b ≡ None = ap (λ (k : ℕ). gone_from_in r k) q ∙ g in
                ap (λ o. least x.ended (least o (gone_from_in n x.b))) ga ∙ ap (λ o. least x.ended (least (Some end.at) o)) gb ∙ least_ab end.at x.ended
                ∙ sym (ap (λ o. least (least x.ended (least o (gone_from_in r x.b))) (Some end.at)) oa
                ∙ ap (λ o. least (least x.ended (least None o)) (Some end.at)) ob)
            | inr q ↦
                ap (λ o. least x.ended (least o (gone_from_in n x.b))) ga ∙ ap (λ (y : Call). least x.ended (least (Some end.at) (gone_from y))) (lost_other r end x.b q)
                ∙ least_a end.at x.ended _
                ∙ sym (ap (λ o. least (least x.ended (least o (gone_from_in r x.b))) (Some end.at)) oa)
          ]
      | inr p ↦
          let q : x.b ≡ end.call = elim (joins_cases end.call x j) [ inl e ↦ absurd (p (sym e)) | inr e ↦ sym e ] in
          let gb = lost_same r end x.b l q in
          let ob : gone_from_in r x.b ≡ None = ap (λ (k : ℕ). gone_from_in r k) q ∙ g in
          ap (λ (y : Call). least x.ended (least (gone_from y) (gone_from_in n x.b))) (lost_other r end x.a p)
          ∙ ap (λ o. least x.ended (least (gone_from_in r x.a) o)) gb ∙ least_b end.at x.ended _
          ∙ sym (ap (λ o. least (least x.ended (least (gone_from_in r x.a) o)) (Some end.at)) ob)
    ]

-- an end that isn't past the new one stays
pub lost_end_kept : (r : Rows) (end : CallEnd) (v : ℕ) (x : Bridge) → end.call < length r.calls →
    gone_from_in r end.call ≡ None → bridge_end_in r x ≡ Some v → v ≤ end.at → bridge_end_in (call_ended_in r end) x ≡ Some v
lost_end_kept r end v x l g e h =
    elim (cases_Bool (joins end.call x)) [
      | inl j ↦ lost_end r end x l g j ∙ ap (λ o. least o (Some end.at)) e ∙ ap Some (omega arith)
      | inr j ↦ lost_end_other r end x j ∙ e
    ]

-- lists of ends that differ at one place
map_but : {X Y : Type 0} (f g : X → Y) (xs : List X) (k : ℕ) (d : X) → k < length xs →
    ((j : ℕ) → j < length xs → j ≢ k → g (get_or xs j d) ≡ f (get_or xs j d)) →
    map g xs ≡ set (map f xs) k (g (get_or xs k d))
map_but f g [] k d l h = absurd (omega arith)
map_but f g (x ∷ xs) zero d l h = ap (λ ys. g x ∷ ys) (map_all f g xs d (λ j m. h (suc j) (omega arith) (omega arith)))
  where
    map_all : {X Y : Type 0} (f g : X → Y) (xs : List X) (d : X) →
        ((j : ℕ) → j < length xs → g (get_or xs j d) ≡ f (get_or xs j d)) → map g xs ≡ map f xs
    map_all f g [] d h = refl
    map_all f g (x ∷ xs) d h = ap (λ y. y ∷ map g xs) (h 0 (omega arith)) ∙ ap (λ ys. f x ∷ ys) (map_all f g xs d (λ j m. h (suc j) (omega arith)))
map_but f g (x ∷ xs) (suc k) d l h =
    ap (λ y. y ∷ map g xs) (h 0 (omega arith) (omega arith))
    ∙ ap (λ ys. f x ∷ ys) (map_but f g xs k d (omega arith) (λ j m n. h (suc j) (omega arith) (omega arith)))

-- the spans, where only the end of the bridge at place k is new
lost_spans_at : (r : Rows) (end : CallEnd) (k : ℕ) → r.spans ≡ filter_map (span_in r) r.bridges →
    end.call < length r.calls → gone_from_in r end.call ≡ None → k < length r.bridges → joins end.call (bridge_at_place r k) ≡ true →
    ((j : ℕ) → j < length r.bridges → j ≢ k → bridge_end_in (call_ended_in r end) (bridge_at_place r j) ≡ bridge_end_in r (bridge_at_place r j)) →
    (o : Option ℕ) → bridge_end_in r (bridge_at_place r k) ≡ o → (elim o [
      | None ↦ insert r.spans (position_in r k) (span_to (bridge_at_place r k) end.at)
      | Some v ↦ if nat_lt end.at v then set r.spans (position_in r k) (span_to (bridge_at_place r k) end.at) else r.spans
    ]) ≡ filter_map (span_in (call_ended_in r end)) r.bridges
lost_spans_at r end k s l g lk q h None e =
    let x = bridge_at_place r k in
    let n : Rows = call_ended_in r end in
    let os : List (Option Span) = map (span_in r) r.bridges in
    ap (λ z. insert z (position_in r k) (span_to x end.at)) (s ∙ filter_map-somes (span_in r) r.bridges)
    ∙ ap (λ z. insert (somes os) z (span_to x end.at)) (position-somes r k)
    ∙ sym (filter_map-somes (span_in n) r.bridges
    ∙ ap somes (map_but (span_in r) (span_in n) r.bridges k no_bridge lk (λ j m ne. ap (option_map (span_to (bridge_at_place r j))) (h j m ne))
    ∙ ap (λ o. set os k (option_map (span_to x) o)) (lost_end r end x l g q ∙ ap (λ o. least o (Some end.at)) e))
    ∙ somes-insert os k (span_to x end.at) (omega (arith, length-map r.bridges (span_in r))) (span_at r k None lk e))
lost_spans_at r end k s l g lk q h (Some v) e = by (nat_lt end.at v) refl
  where
    x : Bridge
    x = bridge_at_place r k

    by : (t : Bool) → nat_lt end.at v ≡ t → (if t then set r.spans (position_in r k) (span_to (bridge_at_place r k) end.at) else r.spans)
        ≡ filter_map (span_in (call_ended_in r end)) r.bridges
    by true b =
        let less = ltb-true end.at v b in
        let n : Rows = call_ended_in r end in
        let os : List (Option Span) = map (span_in r) r.bridges in
        ap (λ z. set z (position_in r k) (span_to (bridge_at_place r k) end.at)) (s ∙ filter_map-somes (span_in r) r.bridges)
        ∙ ap (λ z. set (somes os) z (span_to (bridge_at_place r k) end.at)) (position-somes r k)
        ∙ sym (filter_map-somes (span_in n) r.bridges
        ∙ ap somes (map_but (span_in r) (span_in n) r.bridges k no_bridge lk (λ j m ne. ap (option_map (span_to (bridge_at_place r j))) (h j m ne))
        ∙ ap (λ o. set os k (option_map (span_to (bridge_at_place r k)) o)) (lost_end r end (bridge_at_place r k) l g q ∙ ap (λ o. least o (Some end.at)) e
        ∙ ap Some (omega arith)))
        ∙ somes-set os k (span_to (bridge_at_place r k) end.at) (span_to (bridge_at_place r k) v) (omega (arith, length-map r.bridges (span_in r)))
        (span_at r k (Some v) lk e))
    by false b =
        let more = ltb-false end.at v b in
        s ∙ filter_map_same (span_in r) (span_in (call_ended_in r end)) r.bridges (λ j d m.
        let dd = get_or_default r.bridges j d no_bridge m in
        subst (λ (z : Bridge). span_in r z ≡ span_in (call_ended_in r end) z) (sym dd)
        (ap (option_map (span_to (bridge_at_place r j))) (sym (elim (cases_eq j k) [
          | inl p ↦ subst (λ (j : ℕ). bridge_end_in (call_ended_in r end) (bridge_at_place r j) ≡ bridge_end_in r (bridge_at_place r j)) (sym p)
              (lost_end_kept r end v (bridge_at_place r k) l g e more ∙ sym e)
          | inr p ↦ h j m p
        ]))))

pub table_lost : (r : Rows) (now : ℕ) (end : CallEnd) → IsTable r now → now ≤ end.at →
    end.call < length r.calls → end.call < 4097 → is_open_in r end.call ≡ true → IsTable (call_ended_in r end) now
table_lost r now end s late l lc o =
    let n : Rows = call_ended_in r end in
    let g = (open_parts _ _ _ o).2 in
    record {
      latest = λ d h. subst (λ (o : Option ℕ). IsLatest r.bridges d o)
          (sym (field_kept (λ x. x.bridge) r.calls end.call (record (call_in r end.call) { gone = Some end }) refl d)) (s.latest d h);
      sound = λ j m.
          let q = s.sound j m in
          let x = bridge_at_place r j in
          record {
            from = q.from;
            apart = q.apart;
            known = (
              ap is_some (field_kept (λ x. x.opened) r.calls end.call (record (call_in r end.call) { gone = Some end }) refl x.a)
                  ∙ q.known.0,
              ap is_some (field_kept (λ x. x.opened) r.calls end.call (record (call_in r end.call) { gone = Some end }) refl x.b) ∙ q.known.1,
            );
            ended = λ u e. let z = q.ended u e in (lost_end_kept r end u x l g z.0 (omega (arith, z.1)), z.1);
            lasts = λ e. elim (cases_Bool (joins end.call x)) [
              | inl t ↦ absurd (least_never (bridge_end_in r x) end.at (sym (lost_end r end x l g t) ∙ e))
              | inr t ↦
                  let z = q.lasts (sym (lost_end_other r end x t) ∙ e) in
                  let a = lost_apart end.call x t in (
                    open_other r end.call x.a (record (call_in r end.call) { gone = Some end }) a.0 ∙ z.0,
                    open_other r end.call x.b (record (call_in r end.call) { gone = Some end }) a.1
                        ∙ z.1,
                  )
            ];
          };
      over = λ d i j m h p q.
          let v = s.over d i j m h p q in
          let x = bridge_at_place r i in
          elim (cases_Bool (joins end.call x)) [
            | inl t ↦ record {
              at = min v.at end.at;
              ended = lost_end r end x l g t ∙ ap (λ o. least o (Some end.at)) v.ended;
              before = let b = v.before in omega arith;
            }
            | inr t ↦ record { at = v.at; ended = lost_end_other r end x t ∙ v.ended; before = v.before }
          ];
      unused = unused_set r now end.call (record (call_in r end.call) { gone = Some end }) s l (some_not_none _ (open_parts _ _ _ o).0);
      untold = λ d u e.
          let was : (call_in r d).closed ≡ Some u = sym (field_kept (λ x. x.closed) r.calls end.call (record (call_in r end.call) { gone = Some end }) refl d) ∙ e in
          elim (cases_eq d end.call) [
            | inl p ↦ absurd (let z = ap (λ (d : ℕ). (call_in r d).closed) p ∙ (open_parts _ _ _ o).1 in cc (was, z))
            | inr n ↦ ap gone_from (lost_other r end d n) ∙ s.untold d u was
          ];
      shut = λ d u j e m q.
          let v = s.shut d u j (sym (field_kept (λ x. x.closed) r.calls end.call (record (call_in r end.call) { gone = Some end }) refl d) ∙ e) m q in
          let x = bridge_at_place r j in
          elim (cases_Bool (joins end.call x)) [
            | inl t ↦ record {
              at = min v.at end.at;
              ended = lost_end r end x l g t ∙ ap (λ o. least o (Some end.at)) v.ended;
              before = let b = v.before in omega arith;
            }
            | inr t ↦ record { at = v.at; ended = lost_end_other r end x t ∙ v.ended; before = v.before }
          ];
      spans = lost_spans r now end s late l g (call_in r end.call).bridge (s.latest end.call lc);
    }
  where
    lost_spans : (r : Rows) (now : ℕ) (end : CallEnd) → IsTable r now → now ≤ end.at →
        end.call < length r.calls → gone_from_in r end.call ≡ None → (o : Option ℕ) → IsLatest r.bridges end.call o →
        (elim o [ None ↦ r.spans | Some k ↦ spans_after r end.at k ]) ≡ filter_map (span_in (call_ended_in r end)) r.bridges
    lost_spans r now end s late l g None none =
        s.spans ∙ filter_map_same (span_in r) (span_in (call_ended_in r end)) r.bridges (λ j d m.
        subst (λ (z : Bridge). span_in r z ≡ span_in (call_ended_in r end) z) (sym (get_or_default r.bridges j d no_bridge m))
        (ap (option_map (span_to (bridge_at_place r j))) (sym (lost_end_other r end (bridge_at_place r j) (none j m)))))
    lost_spans r now end s late l g (Some k) is =
        lost_spans_at r end k s.spans l g is.0 is.1 (λ j m ne. elim (cases_Bool (joins end.call (bridge_at_place r j))) [
          | inr t ↦ lost_end_other r end (bridge_at_place r j) t
          | inl t ↦ elim (cases_order j k) [
            | inl p ↦ absurd (ne p)
            | inr (inr p) ↦ absurd (not_both _ (is.2 j p m) t)
            | inr (inl p) ↦
                let v = s.over end.call j k p is.0 t is.1 in
                let f = (s.sound k is.0).from in
                lost_end_kept r end v.at (bridge_at_place r j) l g v.ended (let b = v.before in omega arith) ∙ sym v.ended
          ]
        ]) (bridge_end_in r (bridge_at_place r k)) refl
