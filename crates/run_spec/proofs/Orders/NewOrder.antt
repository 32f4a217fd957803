-- What one more order changes of what is set for a call.
use Rattle.std.proofs.Common.{◌≡◌, refl, sym, ap, ◌∙◌, subst, ℕ, Bool, true, false, Option, Some, None, List, [], ◌∷◌, ◌++◌, map}
use Rattle.std.specs.Prelude.{ℤ, not, ◌&&◌, ◌||◌, is_some, is_none, find, Result, Ok, Err, ◌==◌, if◌then◌else◌}
use Rattle.std.specs.List.{AllByRecursion, list_any}
use Rattle.std.proofs.lemmas.Bool.{and_parts, ne_eqb}
use Rattle.std.proofs.lemmas.List.{append_assoc}
use Rattle.std.proofs.lemmas.List.Folds.{list_any-append}
use Rattle.trau_orders.specs.declared.order.DtxMode.{DtxMode}
use Rattle.switchboard.specs.declared.act.Act.{Act}
use Rattle.switchboard.specs.declared.act.Act.TheVariants as act
use Rattle.switchboard.specs.declared.act.Refusal.{Refusal}
use Rattle.switchboard.specs.declared.table.Bridge.{Bridge}
use Rattle.switchboard.specs.Calls.{Done, opened_at, closed_at, is_open, gone_at}
use Rattle.switchboard.specs.Bridges.{ends_bridge, bridge_by, bridges, joins, lasts, bridge_of}
use Rattle.switchboard.specs.Replies.{known_of}
use Rattle.switchboard.proofs.Orders.OneMore.{or_else, after, bridges-more}
use Rattle.switchboard.proofs.Orders.Steps.{after_kept}
use Rattle.run_spec.specs.Run.{level_by, mode_by, level_after, dtx_mode_after}
use Rattle.run_spec.proofs.Lists.{some_mapped, each_weaker, find_same, find_map, find_none, find_front, any_map}
use Rattle.run_spec.proofs.Orders.Executed.{AreReplies, opened-append, closed-append}
use Rattle.run_spec.proofs.Orders.Shown.{ShownBy, shown}
use Rattle.run_spec.proofs.Bridges.Standing.{IsSoundBridge, Standing, lasts_parts, lasts_from}
use Rattle.run_spec.proofs.Orders.OpenCalls.{open_facts, gone_kept, opened_kept}
use Rattle.run_spec.proofs.Bridges.NewOrder.{after_none}

-- ---- levels and modes

-- one more order sets the level last
pub level-more : (c : ℕ) (v : ℤ) (ds : List Done) (d : Done) → level_after c v (ds ++ d ∷ []) ≡ level_by c d.result (level_after c v ds)
level-more c v [] d = refl
level-more c v (e ∷ ds) d = level-more c (level_by c e.result v) ds d

-- and the mode
pub mode-more : (c : ℕ) (m : DtxMode) (ds : List Done) (d : Done) → dtx_mode_after c m (ds ++ d ∷ []) ≡ mode_by c d.result (dtx_mode_after c m ds)
mode-more c m [] d = refl
mode-more c m (e ∷ ds) d = mode-more c (mode_by c e.result m) ds d

-- a call that isn't opened is set nothing
not_this : (c d : ℕ) (gone : ℕ → Bool) (ds : List Done) → opened_at c ds ≡ None → is_open gone ds d ≡ true → (c == d) ≡ false
not_this c d gone ds n e = ne_eqb c d (λ q. let f = open_facts gone ds d e in let g : opened_at c ds ≡ Some f.0 = ap (λ c. opened_at c ds) q ∙ f.1 in cc)

unset_by : (c : ℕ) (gone : ℕ → Bool) (t : ℕ) (ds : List Done) (r : Result Act Refusal) (v : ℤ) (m : DtxMode) → opened_at c ds ≡ None →
    ShownBy (known_of gone t ds) r → (level_by c r v ≡ v) × (mode_by c r m ≡ m)
unset_by c gone t ds (Ok (act.LevelSet d level)) v m n h = (ap (λ (t : Bool). if t then level else v) (not_this c d gone ds n h), refl)
unset_by c gone t ds (Ok (act.DtxSet d mode)) v m n h = (refl, ap (λ (t : Bool). if t then mode else m) (not_this c d gone ds n h))
unset_by c gone t ds (Ok (act.Opened d law)) v m n h = (refl, refl)
unset_by c gone t ds (Ok (act.Closed d p)) v m n h = (refl, refl)
unset_by c gone t ds (Ok (act.Bridged a b)) v m n h = (refl, refl)
unset_by c gone t ds (Ok (act.Unbridged a b)) v m n h = (refl, refl)
unset_by c gone t ds (Err e) v m n h = (refl, refl)

first_none : (u v : Option ℕ) → or_else u v ≡ None → u ≡ None
first_none None v e = refl
first_none (Some x) v e = cc

-- orders before the opening set nothing
pub unset : (whole : ℕ → ℕ) (c : ℕ) (ds later : List Done) (v : ℤ) (m : DtxMode) → AreReplies whole ds later → opened_at c (ds ++ later) ≡ None →
    (level_after c v later ≡ v) × (dtx_mode_after c m later ≡ m)
unset whole c ds [] v m h n = (refl, refl)
unset whole c ds (d ∷ later) v m h n =
    let gone = gone_at whole d.order.stamp ds in
    let before : opened_at c ds ≡ None = first_none _ _ (sym (opened-append c ds (d ∷ later)) ∙ n) in
    let k =
    unset_by c gone d.order.stamp ds d.result v m before
    (subst (ShownBy (known_of gone d.order.stamp ds)) (sym h.0) (shown (known_of gone d.order.stamp ds) d.order.what)) in
    let rest = unset whole c (ds ++ d ∷ []) later v m h.1 (ap (opened_at c) (append_assoc ds (d ∷ []) later) ∙ n) in
    (ap (λ v. level_after c v later) k.0 ∙ rest.0, ap (λ m. dtx_mode_after c m later) k.1 ∙ rest.1)

-- ---- where a bridge starts

-- one more order may make a bridge that starts
pub starts-more : (c t : ℕ) (ds : List Done) (d : Done) →
    list_any (λ x. joins c x && x.from == t) (bridges (ds ++ d ∷ []))
    ≡ (list_any (λ x. joins c x && x.from == t) (bridges ds) || list_any (λ x. joins c x && x.from == t) (bridge_by d.order.stamp d.result []))
starts-more c t ds d =
    ap (list_any (λ x. joins c x && x.from == t)) (bridges-more ds d)
    ∙ list_any-append (λ x. joins c x && x.from == t) (map (after d) (bridges ds)) (bridge_by d.order.stamp d.result [])
    ∙ ap (λ s. s || list_any (λ x. joins c x && x.from == t) (bridge_by d.order.stamp d.result []))
    (any_map (λ x. joins c x && x.from == t) (after d) (bridges ds))

-- ---- which bridges last

-- a bridge of those before lasts after one more order
abbrev pub lasts_more : (ℕ → ℕ) → ℕ → List Done → Done → Bridge → Bool
lasts_more whole t ds d x = lasts (gone_at whole t (ds ++ d ∷ [])) (ds ++ d ∷ []) (after d x)

-- one more order that neither opens nor closes the call
pub open_more : (whole : ℕ → ℕ) (t : ℕ) (ds : List Done) (d : Done) (c s : ℕ) → opened_at c ds ≡ Some s →
    is_open (gone_at whole t (ds ++ d ∷ [])) (ds ++ d ∷ []) c ≡ (is_open (gone_at whole t ds) ds c && is_none (closed_at c (d ∷ [])))
open_more whole t ds d c s o =
    ap (λ o. is_some o && not (is_some (closed_at c (ds ++ d ∷ []))) && not (gone_at whole t (ds ++ d ∷ []) c)) (opened_kept ds (d ∷ []) c s o)
    ∙ ap (λ g. not (is_some (closed_at c (ds ++ d ∷ []))) && not g) (gone_kept whole t ds (d ∷ []) c s o)
    ∙ ap (λ l. not (is_some l) && not (gone_at whole t ds c)) (closed-append c ds (d ∷ []))
    ∙ by (closed_at c ds) (closed_at c (d ∷ [])) (gone_at whole t ds c)
    ∙ sym (ap (λ o. is_some o && not (is_some (closed_at c ds)) && not (gone_at whole t ds c) && is_none (closed_at c (d ∷ []))) o)
  where
    by : (l n : Option ℕ) (g : Bool) → (not (is_some (or_else l n)) && not g) ≡ (not (is_some l) && not g && is_none n)
    by None None true = refl
    by None None false = refl
    by None (Some e) true = refl
    by None (Some e) false = refl
    by (Some e) n g = refl

-- it lasted before, and the order ended neither it nor a call of it
pub lasted : (whole : ℕ → ℕ) (t u : ℕ) (ds : List Done) (d : Done) (x : Bridge) → IsSoundBridge whole u ds x → lasts_more whole t ds d x ≡ true →
    (lasts (gone_at whole t ds) ds x ≡ true) × (ends_bridge x.a x.b d.result ≡ false) × (closed_at x.a (d ∷ []) ≡ None) × (closed_at x.b (d ∷ []) ≡ None)
lasted whole t u ds d x y e =
    let p = lasts_parts (gone_at whole t (ds ++ d ∷ [])) (ds ++ d ∷ []) (after d x) e in
    let n = after_none d x p.0 in
    let a = and_parts (is_open (gone_at whole t ds) ds x.a) (is_none (closed_at x.a (d ∷ []))) (sym (open_more whole t ds d x.a y.start_a y.opened_a) ∙ p.1) in
    let b = and_parts (is_open (gone_at whole t ds) ds x.b) (is_none (closed_at x.b (d ∷ []))) (sym (open_more whole t ds d x.b y.start_b y.opened_b) ∙ p.2) in
    (lasts_from (gone_at whole t ds) ds x n.0 a.0 b.0, n.1, none _ a.1, none _ b.1)
  where
    none : (o : Option ℕ) → is_none o ≡ true → o ≡ None
    none None e = refl
    none (Some s) e = cc

-- an order that ends neither it nor a call of it leaves a bridge as it was
pub lasts_same : (whole : ℕ → ℕ) (t u : ℕ) (ds : List Done) (d : Done) (x : Bridge) → IsSoundBridge whole u ds x → ends_bridge x.a x.b d.result ≡ false →
    closed_at x.a (d ∷ []) ≡ None → closed_at x.b (d ∷ []) ≡ None →
    lasts_more whole t ds d x ≡ lasts (gone_at whole t ds) ds x
lasts_same whole t u ds d x y e a b =
    ap (λ (z : Bridge). is_none z.ended && is_open (gone_at whole t (ds ++ d ∷ [])) (ds ++ d ∷ []) x.a && is_open (gone_at whole t (ds ++ d ∷ []))
    (ds ++ d ∷ []) x.b) (after_kept d x e)
    ∙ ap (λ s. is_none x.ended && s && is_open (gone_at whole t (ds ++ d ∷ [])) (ds ++ d ∷ []) x.b)
    (open_more whole t ds d x.a y.start_a y.opened_a ∙ ap (λ o. is_open (gone_at whole t ds) ds x.a && is_none o) a ∙ last _)
    ∙ ap (λ s. is_none x.ended && is_open (gone_at whole t ds) ds x.a && s)
    (open_more whole t ds d x.b y.start_b y.opened_b ∙ ap (λ o. is_open (gone_at whole t ds) ds x.b && is_none o) b ∙ last _)
  where
    last : (b : Bool) → (b && true) ≡ b
    last true = refl
    last false = refl

-- whether a call is bridged after one more order
abbrev pub bridged_more : (ℕ → ℕ) → ℕ → List Done → Done → ℕ → Bool
bridged_more whole t ds d c = is_some (bridge_of (gone_at whole t (ds ++ d ∷ [])) (ds ++ d ∷ []) c)

-- where it begins no bridge of the call, by its bridges so far
bridged_old : (whole : ℕ → ℕ) (t : ℕ) (ds : List Done) (d : Done) (c : ℕ) → AllByRecursion (λ x. joins c x ≡ false) (bridge_by d.order.stamp d.result []) →
    bridged_more whole t ds d c ≡ is_some (find (λ x. joins c x && lasts_more whole t ds d x) (bridges ds))
bridged_old whole t ds d c h =
    let test = λ (x : Bridge). joins c x && lasts (gone_at whole t (ds ++ d ∷ [])) (ds ++ d ∷ []) x in
    ap (λ xs. is_some (find (λ (x : Bridge). joins c x && lasts (gone_at whole t (ds ++ d ∷ [])) (ds ++ d ∷ []) x) xs)) (bridges-more ds d)
    ∙ ap is_some
    (find_front test (map (after d) (bridges ds)) (bridge_by d.order.stamp d.result [])
    (each_weaker _ _ (bridge_by d.order.stamp d.result []) (λ x e. ap (λ s. s && lasts (gone_at whole t (ds ++ d ∷ [])) (ds ++ d ∷ []) x) e) h)
    ∙ find_map test (after d) (bridges ds))
    ∙ some_mapped (after d) _

-- an order that leaves its bridges leaves it bridged
pub bridged_kept : (whole : ℕ → ℕ) (t : ℕ) (ds : List Done) (d : Done) (c : ℕ) → AllByRecursion (λ x. joins c x ≡ false) (bridge_by d.order.stamp d.result []) →
    AllByRecursion (λ x. (joins c x && lasts_more whole t ds d x) ≡ (joins c x && lasts (gone_at whole t ds) ds x)) (bridges ds) →
    bridged_more whole t ds d c ≡ is_some (bridge_of (gone_at whole t ds) ds c)
bridged_kept whole t ds d c h k = bridged_old whole t ds d c h ∙ ap is_some (find_same _ _ (bridges ds) k)

-- one that ends them takes it off
pub bridged_off : (whole : ℕ → ℕ) (t : ℕ) (ds : List Done) (d : Done) (c : ℕ) → AllByRecursion (λ x. joins c x ≡ false) (bridge_by d.order.stamp d.result []) →
    AllByRecursion (λ x. (joins c x && lasts_more whole t ds d x) ≡ false) (bridges ds) → bridged_more whole t ds d c ≡ false
bridged_off whole t ds d c h k = bridged_old whole t ds d c h ∙ ap is_some (find_none _ (bridges ds) k)

-- an act that ends nothing
pub bridged_quiet : (whole : ℕ → ℕ) (t u : ℕ) (ds : List Done) (d : Done) (c : ℕ) → Standing whole u ds → ((a b : ℕ) → ends_bridge a b d.result ≡ false) →
    ((q : ℕ) → closed_at q (d ∷ []) ≡ None) →
    AllByRecursion (λ x. joins c x ≡ false) (bridge_by d.order.stamp d.result []) → bridged_more whole t ds d c ≡ is_some (bridge_of (gone_at whole t ds) ds c)
bridged_quiet whole t u ds d c s e q h = bridged_kept whole t ds d c h (each_weaker (IsSoundBridge whole u ds) _ (bridges ds)
    (λ x y. ap (λ l. joins c x && l) (lasts_same whole t u ds d x y (e x.a x.b) (q x.a) (q x.b))) s.sound)
