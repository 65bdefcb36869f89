-- The cases of the visit: of a stretch by the step at a place, of an AVP by its kind.
-- Assumes nothing.
use mathlib.Core.Path.{◌≡◌, refl, sym, ap, ap₂, ◌∙◌}
use mathlib.Core.Bool.{Bool, true, cond}
use mathlib.Core.List.{List}
use Prim.Native.Nat.{ℕ, ◌+◌, ◌-◌, ◌≤◌}
use native.Mathlib.Nat.{add-zero}
use native.Mathlib.Omega.{arith}
use lib.ListN.{length, drop, length-drop}
use Rattle.dictionary.specs.declared.Kind.{Kind}
use Rattle.dictionary.specs.declared.Kind.TheVariants.{Group, Unknown}
use Rattle.dictionary.specs.declared.Key.{Key}
use Rattle.dictionary.specs.Kinds.{size_right}
use Rattle.dictionary.specs.Rows as Rows
use Rattle.paper.specs.declared.Visit.{Visit}
use Rattle.paper.specs.declared.Visit.TheVariants.{Clean, Fault, Unsupported}
use Rattle.paper.specs.Avp.{has_m, flags_of, body_of, avp_of}
use Rattle.paper.specs.Reader.{Placed, Avps, placed, stump, each, view, view_avp, body_at, kind_of, bare, told, join}
use Rattle.paper.proofs.AvpLaws.{framed_at, framed_takes, length-body}
use Rattle.paper.proofs.KindLaws.{leaf_kind, leaf-not-group, leaf-not-unknown}
use Rattle.paper.proofs.ViewLaws.{join_assoc, join_clean, told_then, told-nothing, told-faulty, told-unknown, told-sized, told-group, view-unknown, view_deep, view-group-below, view_known}
use Rattle.avp.specs.declared.cursor.Avp.{Avp}
use Rattle.avp.specs.declared.cursor.Cursor.{Cursor}
use Rattle.avp.specs.declared.cursor.Step.{Step}
use Rattle.avp.specs.declared.cursor.Step.TheVariants.{Item, End, Bad}
use Rattle.avp.specs.Step.{avp_at, key_at, step_at}
use Rattle.avp.specs.Found.{data_of}
use Rattle.avp.proofs.StepLaws.{after_step, avps-after, bad_place, bad_inside, item-avp, item-place, item-framed, item-inside, data_at}
use Rattle.reader.specs.Visit.{all_seen, told_of, told_avp, ReadFrom}

-- ---- what is told of two stretches in a row

-- an unknown AVP with M is told where no fault stands behind it
pub join-kept : {at to : ℕ} (w : Visit) → ((code at' to' : ℕ) → w ≡ Fault code at' to' → ⊥) → Unsupported at to ≡ join (Unsupported at to) w
unfolding join
join-kept (Fault code at' to') n = absurd (n code at' to' refl)
join-kept (Unsupported at' to') n = refl
join-kept Clean n = refl

-- ---- a stretch, by the step at a place

-- the AVP of a step is read from its place
pub item-read : (s : List ℕ) (at : ℕ) {a : Avp} {next : Cursor} → Item a next ≡ step_at s at → ReadFrom s a
item-read s at e =
    let p = item-place s at e in
    record { read = item-avp s at e ∙ ap (avp_at s) (sym p); right = rw p (item-framed s at e); inside = item-inside s at e }

module _ (kind : ℕ → ℕ → Kind) (left base : ℕ) (s : List ℕ) where
  -- what is told from the place `at` on
  abbrev pub told_from : ℕ → Visit
  told_from at = told_of kind left (base + at) (drop at s)

  pub told_start : (at : ℕ) → at ≡ 0 → told_of kind left base s ≡ join Clean (told_from at)
  unfolding join
  told_start at e = rw (e, add-zero)

  after_step_lem : (at : ℕ) (x : Step) → x ≡ step_at s at → told_from at ≡ told (each (view_avp kind all_seen left) (after_step base s x))
  unfolding view
  after_step_lem at x e = ap (λ (l : Avps). told (each (view_avp kind all_seen left) l)) (avps-after base s at x e)

  -- the answer at the end of the stretch
  pub told-end : (at : ℕ) (before : Visit) {all : Visit} → all ≡ join before (told_from at) → End ≡ step_at s at → all ≡ before
  unfolding each
  told-end at before i e = i ∙ ap (join before) (after_step_lem at End e ∙ told-nothing) ∙ join_clean before

  -- the answer at what is no AVP
  pub told_bad : (at : ℕ) (before : Visit) {all : Visit} {p : ℕ} → all ≡ join before (told_from at) → Bad p ≡ step_at s at
      → all ≡ join before (Fault 5014 (base + p) (base + length s))
  unfolding each stump
  told_bad at before {p = p} i e =
      let q = bad_place s at e in
      let l = bad_inside s at e in
      let f : base + p + length (drop p s) ≡ base + length s = rw length-drop (omega arith) in
      i ∙ ap (join before) (after_step_lem at (Bad p) e ∙ told-faulty 5014 _ ∙ ap (Fault 5014 (base + p)) f)

  -- a turn of the loop: what was told is joined with what is told of the AVP
  pub told-turn : (at : ℕ) {a : Avp} {next : Cursor} (before v : Visit) {before' all : Visit} → all ≡ join before (told_from at)
      → Item a next ≡ step_at s at → v ≡ told_avp kind left base s a.at → before' ≡ join before v → all ≡ join before' (told_from next.at)
  unfolding each view
  told-turn at {a} {next} before v i e h j =
      rw (j, h)
      (i ∙ ap (join before) (after_step_lem at (Item a next) e ∙ told_then _ _) ∙ sym (join_assoc before (told_avp kind left base s a.at) (told_from next.at)))

-- ---- an AVP, by its kind

-- a lookup by its key, by any dictionary
pub kind-looked-by : (kind : ℕ → ℕ → Kind) (a : Avp) {key : Key} {k : Kind} → key ≡ key_at a → k ≡ kind key.vendor key.code → kind a.vendor a.code ≡ k
kind-looked-by kind a e l = sym (l ∙ ap (λ (x : Key). kind x.vendor x.code) e)

pub kind-looked : (a : Avp) {key : Key} {k : Kind} → key ≡ key_at a → k ≡ Rows.kind_of key.vendor key.code → Rows.kind_of a.vendor a.code ≡ k
kind-looked a e l = kind-looked-by Rows.kind_of a e l

module _ (kind : ℕ → ℕ → Kind) (left base : ℕ) (s : List ℕ) (a : Avp) (r : ReadFrom s a) where
  -- the AVP that the paper speaks of
  abbrev here : Placed
  here = placed (base + a.at) (drop a.at s)

  end-here : here.end ≡ base + length s
  unfolding placed
  end-here =
      let f = framed_at a.at s r.right in
      let t = framed_takes (drop a.at s) r.right in
      rw length-drop (omega arith)

  kind-here : kind a.vendor a.code ≡ kind_of kind all_seen here.avp
  unfolding placed avp_of avp_at
  kind-here = ap (λ (b : Avp). kind b.vendor b.code) r.read

  pub avp-unknown : {m : Bool} {v : Visit} → m ≡ has_m a.flags → v ≡ cond m (Unsupported (base + a.at) (base + length s)) Clean
      → kind a.vendor a.code ≡ Unknown → v ≡ told_avp kind left base s a.at
  unfolding placed avp_of avp_at
  avp-unknown {m} h e k =
      let f : m ≡ has_m (flags_of (drop a.at s)) = h ∙ ap (λ (b : Avp). has_m b.flags) r.read in
      e ∙ sym (ap told (view-unknown kind all_seen left here (sym kind-here ∙ k)) ∙ told-unknown here ∙ rw (f, end-here))

  pub avp_deep : left ≡ 0 → kind a.vendor a.code ≡ Group → told_avp kind left base s a.at ≡ Fault 5004 (base + a.at) (base + length s)
  unfolding placed
  avp_deep z k = rw z (ap told (view_deep kind all_seen here (sym kind-here ∙ k)) ∙ told-faulty 5004 (bare here) ∙ ap (Fault 5004 (base + a.at)) end-here)

  data_here : data_of s a ≡ body_of (drop a.at s)
  data_here = ap (data_of s) r.read ∙ data_at s a.at

  size-here : length (body_of (drop a.at s)) ≡ a.end - a.start
  unfolding avp_at
  size-here =
      let f = ap (λ (b : Avp). b.start) r.read in
      let t = ap (λ (b : Avp). b.end) r.read in
      length-body (drop a.at s) r.right ∙ omega arith

  pub avp-group : 1 ≤ left → kind a.vendor a.code ≡ Group → told_avp kind left base s a.at ≡ told_of kind (left - 1) (base + a.start) (data_of s a)
  unfolding placed avp_of avp_at
  avp-group h k =
      let f = ap (λ (b : Avp). b.start) r.read in
      let b : body_at here ≡ base + a.start = omega arith in
      ap told (view-group-below kind all_seen left here h (sym kind-here ∙ k)) ∙ told-group _ here
      ∙ ap₂ (λ (n : ℕ) (l : List ℕ). told_of kind (left - 1) n l) b (sym data_here)

  pub avp-sized : (k : Kind) → leaf_kind k ≡ true → kind a.vendor a.code ≡ k
      → told_avp kind left base s a.at ≡ cond (size_right k (a.end - a.start)) Clean (Fault 5014 (base + a.at) (base + length s))
  unfolding placed avp_of
  avp-sized k y e =
      let q : kind_of kind all_seen here.avp ≡ k = sym kind-here ∙ e in
      ap told (view_known kind all_seen left here (λ z. leaf-not-group k y (sym q ∙ z)) (λ z. leaf-not-unknown k y (sym q ∙ z)))
      ∙ told-sized _ _ here ∙ (λ i. cond (size_right (q i) (size-here i)) Clean (Fault 5014 (base + a.at) (end-here i)))
