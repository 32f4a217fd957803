-- What a new bridge keeps of the table.
use Rattle.std.proofs.Common.{◌≡◌, refl, sym, ap, ◌∙◌, subst, ℕ, ◌+◌, ◌<◌, ◌≢◌, true, false, Option, Some, None, List, [], ◌∷◌, ◌++◌, length, get_or, arith}
use Rattle.std.proofs.Common.{inl, inr, ◌⊎◌}
use Rattle.std.specs.Prelude.{not, ◌&&◌, is_some, option_map}
use Rattle.std.specs.List.{filter_map, cons_option}
use Rattle.std.proofs.lemmas.Bool.{cases_eq, cases_lt}
use Rattle.std.proofs.lemmas.List.{length-set, length-append, get_or-set_same, get_or-set_other, get_or_append_left, get_or_push, append-nil}
use Rattle.std.proofs.lemmas.List.Elements.{filter_map-append}
use Rattle.switchboard.specs.declared.table.Bridge.{Bridge}
use Rattle.switchboard.specs.declared.table.Call.{Call}
use Rattle.switchboard.specs.Bridges.{joins, no_bridge}
use Rattle.switchboard.specs.Rows.{Rows, never, call_in, bridge_at_place, is_open_in, bridge_end_in, span_in, with_latest, bridged_in, gone_from_in, gone_from}
use Rattle.switchboard.specs.Ends.{least, span_to}
use Rattle.switchboard.specs.Stands.{IsOver, IsLatest, IsSound, IsTable}
use Rattle.switchboard.proofs.Tables.Known.{not_true, open_parts}
use Rattle.switchboard.proofs.Orders.Steps.{field_kept, filter_map_same, over_kept}
use Rattle.switchboard.proofs.Tables.Calls.{joins_left, joins_right, joins_cases}

-- ---- a bridge begins

abbrev pub new_bridge : ℕ → ℕ → ℕ → Bridge
new_bridge t a b = record { a = a; b = b; from = t; ended = None }

-- the latest bridge of each call, after a new one joins a and b
pub placed : (r : Rows) (a b k c : ℕ) → a < length r.calls → b < length r.calls →
    ((get_or (with_latest (with_latest r.calls k a) k b) c never).bridge ≡ Some k) × ((c ≡ a) ⊎ (c ≡ b))
    ⊎ ((get_or (with_latest (with_latest r.calls k a) k b) c never).bridge ≡ (call_in r c).bridge) × (c ≢ a) × (c ≢ b)
placed r a b k c la lb =
    let cs : List Call = with_latest r.calls k a in
    let lc : b < length cs = omega (arith, length-set r.calls a (record (call_in r a) { bridge = Some k })) in
    elim (cases_eq c b) [
      | inl p ↦ inl (
        subst (λ (c : ℕ). (get_or (with_latest cs k b) c never).bridge ≡ Some k) (sym p)
            (ap (λ (x : Call). x.bridge) (get_or-set_same cs b _ never lc)),
        inr p,
      )
      | inr n ↦
          let e = ap (λ (x : Call). x.bridge) (get_or-set_other cs b c (record (get_or cs b never) { bridge = Some k }) never n) in
          elim (cases_eq c a) [
            | inl p ↦ inl (
              e ∙ subst (λ (c : ℕ). (get_or cs c never).bridge ≡ Some k) (sym p)
                  (ap (λ (x : Call). x.bridge) (get_or-set_same r.calls a _ never la)),
              inl p,
            )
            | inr m ↦ inr (e ∙ ap (λ (x : Call). x.bridge) (get_or-set_other r.calls a c (record (call_in r a) { bridge = Some k }) never m), m, n)
          ]
    ]

-- a field that a new bridge leaves
pub bridged_field : {Y : Type 0} (f : Call → Y) (r : Rows) (k a b : ℕ) → ((e : Call) → f (record e { bridge = Some k }) ≡ f e) → (c : ℕ) →
    f (get_or (with_latest (with_latest r.calls k a) k b) c never) ≡ f (call_in r c)
bridged_field f r k a b h c =
    field_kept f (with_latest r.calls k a) b _ (h _) c ∙ field_kept f r.calls a _ (h _) c

-- A new bridge changes nothing about which calls are open.
pub bridged_open : (r : Rows) (t a b c : ℕ) → is_open_in (bridged_in r t a b) c ≡ is_open_in r c
bridged_open r t a b c =
    let k = length r.bridges in
    ap (λ o. is_some o && not (is_some (call_in (bridged_in r t a b) c).closed) && not (is_some (gone_from_in (bridged_in r t a b) c)))
    (bridged_field (λ x. x.opened) r k a b (λ e. refl) c)
    ∙ ap (λ o. is_some (call_in r c).opened && not (is_some o) && not (is_some (gone_from_in (bridged_in r t a b) c)))
    (bridged_field (λ x. x.closed) r k a b (λ e. refl) c)
    ∙ ap (λ o. is_some (call_in r c).opened && not (is_some (call_in r c).closed) && not (is_some o)) (bridged_field gone_from r k a b (λ e. refl) c)

-- A new bridge changes the end of no other bridge.
bridged_end : (r : Rows) (t a b : ℕ) (x : Bridge) → bridge_end_in (bridged_in r t a b) x ≡ bridge_end_in r x
bridged_end r t a b x =
    let k = length r.bridges in
    ap (λ o. least x.ended (least o (gone_from_in (bridged_in r t a b) x.b))) (bridged_field gone_from r k a b (λ e. refl) x.a)
    ∙ ap (λ o. least x.ended (least (gone_from_in r x.a) o)) (bridged_field gone_from r k a b (λ e. refl) x.b)

-- the bridges stay at their places
pub old_place : (bs : List Bridge) (y : Bridge) (j : ℕ) → j < length bs → get_or (bs ++ y ∷ []) j no_bridge ≡ get_or bs j no_bridge
old_place bs y j l = get_or_append_left bs (y ∷ []) no_bridge j l

-- the new one is the last
pub new_place : (bs : List Bridge) (y : Bridge) → get_or (bs ++ y ∷ []) (length bs) no_bridge ≡ y
new_place bs y = get_or_push bs y no_bridge (length bs) refl

more_length : (bs : List Bridge) (y : Bridge) → length (bs ++ y ∷ []) ≡ length bs + 1
more_length bs y = length-append bs (y ∷ [])

-- each place is an old one or the new one
each_place : (bs : List Bridge) (y : Bridge) (P : ℕ → Bridge → Type 0) → ((j : ℕ) → j < length bs → P j (get_or bs j no_bridge)) → P (length bs) y →
    (j : ℕ) → j < length (bs ++ y ∷ []) → P j (get_or (bs ++ y ∷ []) j no_bridge)
each_place bs y P old new j l =
    let n = more_length bs y in
    elim (cases_lt j (length bs)) [
      | inl h ↦ subst (λ (x : Bridge). P j x) (sym (old_place bs y j h)) (old j h)
      | inr h ↦
          let e : length bs ≡ j = omega arith in
          subst (λ (j : ℕ). P j (get_or (bs ++ y ∷ []) j no_bridge)) e (subst (λ (x : Bridge). P (length bs) x) (sym (new_place bs y)) new)
    ]

-- of a call that it doesn't join the latest bridge stays
latest_more : (bs : List Bridge) (c t a b : ℕ) (o : Option ℕ) → IsLatest bs c o → c ≢ a → c ≢ b → IsLatest (bs ++ new_bridge t a b ∷ []) c o
latest_more bs c t a b None l na nb =
    each_place bs (new_bridge t a b) (λ j x. joins c x ≡ false) l (not_true _ (λ e. elim (joins_cases c (new_bridge t a b) e) [ inl p ↦ na p | inr p ↦ nb p ]))
latest_more bs c t a b (Some k) l na nb =
    let y : Bridge = new_bridge t a b in
    let n = more_length bs y in (
      omega (arith, l.0),
      ap (joins c) (old_place bs y k l.0) ∙ l.1,
      λ j h i. each_place bs y (λ j x. k < j → joins c x ≡ false) (λ j i h. l.2 j h i)
          (λ h. not_true _ (λ e. elim (joins_cases c y e) [ inl p ↦ na p | inr p ↦ nb p ])) j i h,
    )

-- of a call that it joins it is the latest
latest_new : (bs : List Bridge) (c t a b : ℕ) → ((c ≡ a) ⊎ (c ≡ b)) → IsLatest (bs ++ new_bridge t a b ∷ []) c (Some (length bs))
latest_new bs c t a b q =
    let y : Bridge = new_bridge t a b in
    let n = more_length bs y in
    (omega arith, ap (joins c) (new_place bs y) ∙ elim q [ inl p ↦ joins_left c y p | inr p ↦ joins_right c y p ], λ j h i. absurd (omega arith))

pub table_bridged : (r : Rows) (t a b : ℕ) → IsTable r t → length r.calls ≡ 4097 → a < 4097 →
    b < 4097 → a ≢ b → is_open_in r a ≡ true → is_open_in r b ≡ true →
    ((c j : ℕ) → (c ≡ a) ⊎ (c ≡ b) → j < length r.bridges → joins c (bridge_at_place r j) ≡ true → IsOver r t (bridge_at_place r j)) →
    IsTable (bridged_in r t a b) t
table_bridged r t a b s len la lb apart oa ob over =
    let y : Bridge = new_bridge t a b in
    let n : Rows = bridged_in r t a b in
    let m = more_length r.bridges y in
    let ga = open_parts _ _ _ oa in
    let gb = open_parts _ _ _ ob in
    let none : bridge_end_in r y ≡ None = ap (λ o. least o (gone_from_in r b)) ga.2 ∙ gb.2 in
    record {
      latest = λ c h. elim (placed r a b (length r.bridges) c (omega arith) (omega arith)) [
        | inl p ↦ subst (λ (o : Option ℕ). IsLatest n.bridges c o) (sym p.0) (latest_new r.bridges c t a b p.1)
        | inr p ↦ subst (λ (o : Option ℕ). IsLatest n.bridges c o) (sym p.0) (latest_more r.bridges c t a b _ (s.latest c h) p.1 p.2)
      ];
      sound = each_place r.bridges y (λ j x. IsSound n t x)
          (λ j l. let q = s.sound j l in let x = bridge_at_place r j in record {
            from = q.from;
            apart = q.apart;
            known = (
              ap is_some (bridged_field (λ x. x.opened) r (length r.bridges) a b (λ e. refl) x.a)
                  ∙ q.known.0,
              ap is_some (bridged_field (λ x. x.opened) r (length r.bridges) a b (λ e. refl) x.b) ∙ q.known.1,
            );
            ended = λ u e. let z = q.ended u e in (bridged_end r t a b x ∙ z.0, z.1);
            lasts = λ e. let z = q.lasts (sym (bridged_end r t a b x) ∙ e) in (bridged_open r t a b x.a ∙ z.0, bridged_open r t a b x.b ∙ z.1);
          })
          (record {
            from = omega arith;
            apart = apart;
            known = (
              ap is_some (bridged_field (λ x. x.opened) r (length r.bridges) a b (λ e. refl) a) ∙ ga.0,
              ap is_some (bridged_field (λ x. x.opened) r (length r.bridges) a b (λ e. refl) b) ∙ gb.0,
            );
            ended = λ u e. cc;
            lasts = λ e. (bridged_open r t a b a ∙ oa, bridged_open r t a b b ∙ ob);
          });
      over = λ c i j l h p q.
          let li : i < length r.bridges = omega arith in
          let x = bridge_at_place r i in
          let p' : joins c x ≡ true = ap (joins c) (sym (old_place r.bridges y i li)) ∙ p in
          subst (λ (z : Bridge). IsOver n (bridge_at_place n j).from z) (sym (old_place r.bridges y i li))
          (each_place r.bridges y (λ j z. i < j → joins c z ≡ true → IsOver n z.from x)
          (λ j h l q. over_kept r n (bridge_at_place r j).from x (bridged_end r t a b x) (s.over c i j l h p' q))
          (λ l q. over_kept r n t x (bridged_end r t a b x) (over c i (joins_cases c y q) li p')) j h l q);
      unused = λ c e.
          let k = length r.bridges in
          let u = s.unused c (sym (bridged_field (λ x. x.opened) r k a b (λ e. refl) c) ∙ e) in
          (bridged_field (λ x. x.closed) r k a b (λ e. refl) c ∙ u.0, bridged_field gone_from r k a b (λ e. refl) c ∙ u.1);
      untold = λ c u e. bridged_field gone_from r (length r.bridges) a b (λ e. refl) c
          ∙ s.untold c u (sym (bridged_field (λ x. x.closed) r (length r.bridges) a b (λ e. refl) c) ∙ e);
      shut = λ c u j e l q.
          let was : (call_in r c).closed ≡ Some u = sym (bridged_field (λ x. x.closed) r (length r.bridges) a b (λ e. refl) c) ∙ e in
          each_place r.bridges y (λ j z. joins c z ≡ true → IsOver n (u + 1) z)
          (λ j l q. over_kept r n (u + 1) (bridge_at_place r j) (bridged_end r t a b (bridge_at_place r j)) (s.shut c u j was l q))
          (λ q. absurd (elim
          (joins_cases c y q) [
            | inl p ↦ let z = ap (λ (c : ℕ). (call_in r c).closed) p ∙ ga.1 in cc (was, z)
            | inr p ↦ let z = ap (λ (c : ℕ). (call_in r c).closed) p ∙ gb.1 in cc (was, z)
          ])) j l q;
      spans = s.spans ∙ filter_map_same (span_in r) (span_in n) r.bridges (λ j d l. ap (option_map (span_to (get_or r.bridges j d)))
          (sym (bridged_end r t a b (get_or r.bridges j d))))
          ∙ sym (filter_map-append (span_in n) r.bridges (y ∷ [])
          ∙ ap (λ o. filter_map (span_in n) r.bridges ++ cons_option (option_map (span_to y) o) []) (bridged_end r t a b y ∙ none) ∙ append-nil _);
    }
