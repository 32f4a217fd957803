-- For crates above: after an order a call's settings are changed as its act says (`settings_ordered`).
-- What each act changes of what is set for a call.
use Rattle.std.proofs.Common.{◌≡◌, refl, sym, ap, ◌∙◌, subst, ℕ, ◌≤◌, Bool, true, false, Option, Some, None, List, [], ◌∷◌, ◌++◌, map, inl, inr, arith}
use Rattle.std.specs.Prelude.{ℤ, pos, ◌&&◌, ◌||◌, is_some, option_map, find, Result, Ok, Err, ◌==◌, if◌then◌else◌}
use Rattle.std.specs.List.{list_any}
use Rattle.std.proofs.lemmas.Bool.{and_from, eq-eqb, eqb-true, or_cases, or_parts}
use Rattle.trau_orders.specs.declared.order.Order.{Order}
use Rattle.trau_orders.specs.declared.order.DtxMode.{DtxMode}
use Rattle.trau_orders.specs.declared.order.DtxMode.TheVariants.{Uplink}
use Rattle.switchboard.specs.declared.act.Act.{Act}
use Rattle.switchboard.specs.declared.act.Act.TheVariants as act
use Rattle.switchboard.specs.declared.act.Refusal.{Refusal}
use Rattle.switchboard.specs.declared.table.Bridge.{Bridge}
use Rattle.switchboard.specs.Calls.{Done, is_this, opened_at, is_open, gone_at}
use Rattle.switchboard.specs.Bridges.{bridge_by, bridges, joins, other, lasts, bridge_of}
use Rattle.switchboard.specs.Replies.{known_of}
use Rattle.switchboard.specs.Runs.{IsRun}
use Rattle.switchboard.proofs.Orders.OneMore.{after, bridges-more}
use Rattle.call_leg.specs.Settings.{Settings, new_settings, with_level, with_mode, with_bridge, without_bridge}
use Rattle.run_spec.specs.Run.{Run, whole_in, level_by, mode_by, level_after, dtx_mode_after}
use Rattle.run_spec.specs.Now.{IsSoFar, settings_now, changed_by}
use Rattle.switchboard.proofs.Lists.{not_both}
use Rattle.run_spec.proofs.Lists.{each_weaker, find_none, any_none}
use Rattle.run_spec.proofs.Orders.Executed.{AreReplies, run_replies, last_reply}
use Rattle.run_spec.proofs.Orders.Shown.{ShownBy, shown, done}
use Rattle.run_spec.proofs.Bridges.Standing.{Standing, lasts_from}
use Rattle.run_spec.proofs.Orders.OpenCalls.{open_facts}
use Rattle.run_spec.proofs.Periods.SoFar.{standing_now}
use Rattle.run_spec.proofs.Bridges.Later.{same_settings}
use Rattle.run_spec.proofs.Orders.NewOrder.{level-more, mode-more, unset, starts-more, open_more, bridged_more, bridged_quiet}
use Rattle.run_spec.proofs.Bridges.Over.{none_joins, unopened, unbridged, unbridged_other, closed_itself, closed_partner, closed_other}

or_no : (s : Bool) → (s || false) ≡ s
or_no true = refl
or_no false = refl

-- whether a bridge of a call starts at t
abbrev started : List Done → ℕ → ℕ → Bool
started ds t c = list_any (λ x. joins c x && x.from == t) (bridges ds)

-- whether a bridge of a call lasts at t
abbrev bridged : Run → List Done → ℕ → ℕ → Bool
bridged r ds t c = is_some (bridge_of (gone_at (whole_in r) t ds) ds c)

-- settings by their parts
abbrev settings : ℤ → DtxMode → Bool → Bool → Settings
settings level mode starts bridged = record { level = level; mode = mode; starts = starts; bridged = bridged }

-- after an order they are what the parts are
by_parts : (r : Run) (t : ℕ) (ds : List Done) (d : Done) (c : ℕ) (starts b : Bool) →
    (started ds t c || list_any (λ x. joins c x && x.from == t) (bridge_by d.order.stamp d.result [])) ≡ starts → bridged_more (whole_in r) t ds d c ≡ b →
    settings_now r (ds ++ d ∷ []) t c ≡ settings (level_by c d.result (level_after c (pos 256) ds)) (mode_by c d.result (dtx_mode_after c Uplink ds)) starts b
by_parts r t ds d c starts b e f = same_settings _ _ _ _ _ _ _ _ (level-more c (pos 256) ds d) (mode-more c Uplink ds d) (starts-more c t ds d ∙ e) f

-- ---- all acts

-- the last of a list is found
some_last : (p : Bridge → Bool) (xs : List Bridge) (y : Bridge) → p y ≡ true → is_some (find p (xs ++ y ∷ [])) ≡ true
some_last p [] y e = ap (λ (t : Bool). is_some (if t then Some y else None)) e
some_last p (x ∷ xs) y e = by (p x) x (find p (xs ++ y ∷ [])) (some_last p xs y e)
  where
    by : (t : Bool) (x : Bridge) (o : Option Bridge) → is_some o ≡ true → is_some (if t then Some x else o) ≡ true
    by true x o e = refl
    by false x o e = e

-- a level that is set, or stays
set_level : (b : Bool) (v level : ℤ) (mode : DtxMode) (starts bridged : Bool) →
    settings (if b then v else level) mode starts bridged
    ≡ (if b then with_level v (settings level mode starts bridged) else settings level mode starts bridged)
set_level true v level mode starts bridged = refl
set_level false v level mode starts bridged = refl

-- a mode that is set, or stays
set_mode : (b : Bool) (m : DtxMode) (level : ℤ) (mode : DtxMode) (starts bridged : Bool) →
    settings level (if b then m else mode) starts bridged ≡ (if b then with_mode m (settings level mode starts bridged) else settings level mode starts bridged)
set_mode true m level mode starts bridged = refl
set_mode false m level mode starts bridged = refl

-- **What an order makes of what is set for a call.**
pub settings_more : (r : Run) (t u : ℕ) (ds : List Done) (o : Order) (res : Result Act Refusal) (c : ℕ) → Standing (whole_in r) u ds → u ≤ t →
    AreReplies (whole_in r) [] ds →
    ShownBy (known_of (gone_at (whole_in r) t ds) t ds) res → o.stamp ≡ t →
    settings_now r (ds ++ done o res ∷ []) t c ≡ changed_by c res (settings_now r ds t c)
settings_more r t u ds o (Err e) c s l a h q =
    by_parts r t ds (done o (Err e)) c (started ds t c) (bridged r ds t c) (or_no _)
    (bridged_quiet (whole_in r) t u ds (done o (Err e)) c s (λ a b. refl) (λ q. refl) tt)
settings_more r t u ds o (Ok (act.LevelSet d v)) c s l a h q =
    by_parts r t ds (done o (Ok (act.LevelSet d v))) c (started ds t c) (bridged r ds t c) (or_no _)
    (bridged_quiet (whole_in r) t u ds (done o (Ok (act.LevelSet d v))) c s (λ a b. refl) (λ q. refl) tt)
    ∙ set_level (c == d) v (level_after c (pos 256) ds) (dtx_mode_after c Uplink ds) (started ds t c) (bridged r ds t c)
settings_more r t u ds o (Ok (act.DtxSet d m)) c s l a h q =
    by_parts r t ds (done o (Ok (act.DtxSet d m))) c (started ds t c) (bridged r ds t c) (or_no _)
    (bridged_quiet (whole_in r) t u ds (done o (Ok (act.DtxSet d m))) c s (λ a b. refl) (λ q. refl) tt)
    ∙ set_mode (c == d) m (level_after c (pos 256) ds) (dtx_mode_after c Uplink ds) (started ds t c) (bridged r ds t c)
settings_more r t u ds o (Ok (act.Opened d law)) c s l a h q =
    by_parts r t ds (done o (Ok (act.Opened d law))) c (started ds t c) (bridged r ds t c) (or_no _)
    (bridged_quiet (whole_in r) t u ds (done o (Ok (act.Opened d law))) c s (λ a b. refl) (λ q. refl) tt)
    ∙ by (c == d) refl
  where
    fresh : c ≡ d → settings_now r ds t c ≡ new_settings
    fresh e =
        let n : opened_at c ds ≡ None = ap (λ c. opened_at c ds) e ∙ unopened (gone_at (whole_in r) t ds) ds d h.0 h.1 in
        let k = unset (whole_in r) c [] ds (pos 256) Uplink a n in
        let j = none_joins (whole_in r) u ds c s n in
        same_settings _ _ _ _ _ _ _ _ k.0 k.1
        (any_none _ (bridges ds) (each_weaker _ _ (bridges ds) (λ x f. ap (λ j. j && x.from == t) f) j))
        (ap is_some (find_none _ (bridges ds) (each_weaker _ _ (bridges ds) (λ x f. ap (λ j. j && lasts (gone_at (whole_in r) t ds) ds x) f) j)))

    by : (b : Bool) → (c == d) ≡ b → settings_now r ds t c ≡ (if b then new_settings else settings_now r ds t c)
    by true e = fresh (eqb-true c d e)
    by false e = refl
settings_more r t u ds o (Ok (act.Bridged a b)) c s l w h q = by (c == a || c == b) refl
  where
    d : Done
    d = done o (Ok (act.Bridged a b))

    new : Bridge
    new = record { a = a; b = b; from = o.stamp; ended = None }

    opens : (e : ℕ) → is_open (gone_at (whole_in r) t ds) ds e ≡ true → is_open (gone_at (whole_in r) t (ds ++ d ∷ [])) (ds ++ d ∷ []) e ≡ true
    opens e f = let g = open_facts (gone_at (whole_in r) t ds) ds e f in open_more (whole_in r) t ds d e g.0 g.1 ∙ ap (λ s. s && true) f

    lasting : lasts (gone_at (whole_in r) t (ds ++ d ∷ [])) (ds ++ d ∷ []) new ≡ true
    lasting = lasts_from (gone_at (whole_in r) t (ds ++ d ∷ [])) (ds ++ d ∷ []) new refl (opens a h.open_a) (opens b h.open_b)

    by : (j : Bool) → (c == a || c == b) ≡ j → settings_now r (ds ++ d ∷ []) t c ≡ (if j then with_bridge (settings_now r ds t c) else settings_now r ds t c)
    by true e = by_parts r t ds d c true true
        (ap (λ j. started ds t c || (j && o.stamp == t || false)) e ∙ ap (λ k. started ds t c || (k || false)) (eq-eqb o.stamp t q) ∙ yes (started ds t c))
        (ap (λ xs. is_some (find (λ (x : Bridge). joins c x && lasts (gone_at (whole_in r) t (ds ++ d ∷ [])) (ds ++ d ∷ []) x) xs)) (bridges-more ds d)
        ∙ some_last _ (map (after d) (bridges ds)) new (and_from _ _ e lasting))
      where
        yes : (s : Bool) → (s || true) ≡ true
        yes true = refl
        yes false = refl
    by false e = by_parts r t ds d c (started ds t c) (bridged r ds t c) (ap (λ j. started ds t c || (j && o.stamp == t || false)) e ∙ or_no _)
        (bridged_quiet (whole_in r) t u ds d c s (λ a b. refl) (λ q. refl) (e, tt))
settings_more r t u ds o (Ok (act.Unbridged a b)) c s l w h q =
    subst (λ (a : ℕ). settings_now r (ds ++ done o (Ok (act.Unbridged a b)) ∷ []) t c ≡ changed_by c (Ok (act.Unbridged a b)) (settings_now r ds t c)) (sym h.3)
    (subst (λ (b : ℕ). settings_now r (ds ++ done o (Ok (act.Unbridged h.1.a b)) ∷ []) t c ≡ changed_by c (Ok (act.Unbridged h.1.a b)) (settings_now r ds t c))
    (sym h.4) (by (c == h.1.a || c == h.1.b) refl))
  where
    by : (j : Bool) → (c == h.1.a || c == h.1.b) ≡ j →
        settings_now r (ds ++ done o (Ok (act.Unbridged h.1.a h.1.b)) ∷ []) t c ≡ (if j then without_bridge (settings_now r ds t c) else settings_now r ds t c)
    by true e =
        by_parts r t ds (done o (Ok (act.Unbridged h.1.a h.1.b))) c (started ds t c) false (or_no _) (unbridged (whole_in r) t u ds o c h.0 h.1 s l h.2 e)
    by false e =
        by_parts r t ds (done o (Ok (act.Unbridged h.1.a h.1.b))) c (started ds t c) (bridged r ds t c) (or_no _)
        (unbridged_other (whole_in r) t u ds o c h.1.a h.1.b s e)
settings_more r t u ds o (Ok (act.Closed d p)) c s l w h q = by (c == d || is_this c p) refl
  where
    partner : (z : Option Bridge) → bridge_of (gone_at (whole_in r) t ds) ds d ≡ z → is_this c p ≡ true →
        bridged_more (whole_in r) t ds (done o (Ok (act.Closed d p))) c ≡ false
    partner None e f = absurd (not_both _ (ap (is_this c) (h.1 ∙ ap (option_map (other d)) e)) f)
    partner (Some z) e f =
        let g : c ≡ other d z = eqb-true c (other d z) (ap (is_this c) (sym (h.1 ∙ ap (option_map (other d)) e)) ∙ f) in
        ap (bridged_more (whole_in r) t ds (done o (Ok (act.Closed d p)))) g ∙ closed_partner (whole_in r) t u ds o d p z s l e

    by : (j : Bool) → (c == d || is_this c p) ≡ j →
        settings_now r (ds ++ done o (Ok (act.Closed d p)) ∷ []) t c ≡ (if j then without_bridge (settings_now r ds t c) else settings_now r ds t c)
    by true e = by_parts r t ds (done o (Ok (act.Closed d p))) c (started ds t c) false (or_no _) (elim (or_cases (c == d) (is_this c p) e) [
      | inl f ↦ closed_itself (whole_in r) t u ds o c d p s (eqb-true c d f)
      | inr f ↦ partner (bridge_of (gone_at (whole_in r) t ds) ds d) refl f
    ])
    by false e = let f = or_parts (c == d) (is_this c p) e in
        by_parts r t ds (done o (Ok (act.Closed d p))) c (started ds t c) (bridged r ds t c) (or_no _)
        (closed_other (whole_in r) t u ds o c d p s l h.1 f.0 f.1)

-- the same of a run so far
pub settings_ordered : (r : Run) (t : ℕ) (ds : List Done) (d : Done) (left : List Order) (c : ℕ) → IsSoFar r t ds (d.order ∷ left) → d.order.stamp ≡ t →
    IsRun (whole_in r) (ds ++ d ∷ []) →
    settings_now r (ds ++ d ∷ []) t c ≡ changed_by c d.result (settings_now r ds t c)
settings_ordered r t ds d left c s e run =
    settings_more r t t ds d.order d.result c (standing_now r t ds (d.order ∷ left) s) (omega arith) (run_replies (whole_in r) ds s.replies)
    (subst (λ (v : ℕ). ShownBy (known_of (gone_at (whole_in r) v ds) v ds) d.result) e
    (subst (ShownBy (known_of (gone_at (whole_in r) d.order.stamp ds) d.order.stamp ds)) (sym (last_reply (whole_in r) ds d run))
    (shown (known_of (gone_at (whole_in r) d.order.stamp ds) d.order.stamp ds) d.order.what))) e
