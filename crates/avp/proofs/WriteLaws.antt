-- Laws of the bytes that the writers put: headers, whole AVPs by header and data, their sizes, and a group written header first or parts first.
-- Assumes nothing.
use mathlib.Core.Path.{◌≡◌, refl, sym, ap, ◌∙◌}
use mathlib.Core.Bool.{Bool, true, false, cond}
use mathlib.Core.List.{List, [], ◌∷◌, ◌++◌, append-nil}
use Prim.Native.Nat.{ℕ, ◌+◌, ◌-◌, ◌*◌, ◌/◌, ◌%◌, ◌^◌, ◌≤◌, ◌<◌}
use native.Mathlib.Omega.{arith}
use lib.ListN.{length, drop, replicate, length-append, length-replicate}
use lib.Dec.{ltb, leb, eqb}
use borrow.Author.Tests.{le-ltb, lt-ltb, le-leb, lt-leb}
use Rattle.std.proofs.lemmas.Bool.{and_left, and_right}
use Rattle.wire.specs.Number.{be}
use Rattle.wire.specs.Put.{Wrote}
use Rattle.wire.proofs.NumberLaws.{be-append}
use Rattle.wire.proofs.PutLaws.{wrote_then, wrote_under, wrote-same, wrote_nothing}
use Rattle.paper.specs.Avp.{has_v, head_size, padded, vendor_field, avp_of, as_received, flags_for, written}
use Rattle.paper.proofs.AvpLaws.{padded-least, padded-whole}
use Rattle.paper.proofs.WrittenLaws.{head_bytes, length_head, length_as_received}
use Rattle.avp.specs.Step.{avp_at}
use Rattle.avp.specs.Found.{data_of}
use Rattle.avp.specs.declared.cursor.Avp.{Avp as Read}
use Rattle.avp.proofs.StepLaws.{data_at}
use Rattle.std.specs.Prelude.{Ok}
use Rattle.avp.specs.declared.write.Writer.{Writer}
use Rattle.avp.specs.Written.{Room, Appended, Opened, Closed, group_head, group_head_size, received, not_written, came_to, has_room, avp_written}

-- ---- headers

-- flags and length are one number of four bytes
pub flags-and-length : (flags k : ℕ) → flags < 256 → k < 16777216 → be 4 (flags * 16777216 + k) ≡ flags ∷ be 3 k
flags-and-length flags k h l =
    let e : flags / 256 ^ 0 % 256 ≡ flags = omega arith in
    be-append 1 3 flags k l ∙ ap (λ (x : ℕ). x ∷ be 3 k) e

pub length_field : (flags vendor : ℕ) → 8 + length (vendor_field flags vendor) ≡ head_size flags
unfolding vendor_field head_size
length_field flags vendor = go (has_v flags)
  where
    go : (b : Bool) → 8 + length (cond b (be 4 vendor) []) ≡ cond b 12 8
    go true = refl
    go false = refl

-- "V unless vendor 0"
pub head_size_for : (vendor : ℕ) (mandatory : Bool) → head_size (flags_for vendor mandatory) ≡ cond (eqb vendor 0) 8 12
unfolding head_size flags_for
head_size_for vendor mandatory = go (eqb vendor 0) mandatory
  where
    go : (b m : Bool) → ◌≡◌ {A = ℕ} (cond (has_v (cond b 0 128 + cond m 64 0)) 12 8) (cond b 8 12)
    go true true = refl
    go true false = refl
    go false true = refl
    go false false = refl

-- ---- one AVP behind another

module _ {w w₁ : Writer} {xs : List ℕ} where
  pub appended_then : {w₂ : Writer} {ys : List ℕ} → Appended w xs w₁ → Appended w₁ ys w₂ → Appended w (xs ++ ys) w₂
  appended_then p q =
      let i = p.inside in
      let z = p.size in
      let n = p.wrote.next in
      record { same = q.same ∙ p.same; size = q.size ∙ p.size; inside = q.inside; wrote = wrote_then (omega arith) p.wrote q.wrote }

  -- what was put, by another name
  pub appended-same : {ys : List ℕ} → xs ≡ ys → Appended w xs w₁ → Appended w ys w₁
  appended-same e p = record { same = p.same; size = p.size; inside = p.inside; wrote = wrote-same e p.wrote }

  -- room for more
  pub room_behind : (n : ℕ) → Appended w xs w₁ → Room w (length xs + n) → Room w₁ n
  room_behind n p r =
      let z = p.size in
      let n = p.wrote.next in
      omega arith

pub appended_nothing : (w : Writer) → Room w 0 → Appended w [] w
appended_nothing w r = record { same = refl; size = refl; inside = omega arith; wrote = wrote_nothing w.out.now w.at }

-- ---- whole AVPs

pub received_parts : (code flags vendor : ℕ) (body : List ℕ)
    → received code flags vendor body ≡ head_bytes code flags vendor (length body) ++ (body ++ replicate (padded (length body) - length body) 0)
unfolding as_received head_bytes
received_parts code flags vendor body = refl

pub length-received : (code flags vendor : ℕ) (body : List ℕ) → length (received code flags vendor body) ≡ head_size flags + padded (length body)
length-received code flags vendor body =
    let p = padded-least (length body) in
    ap length (received_parts code flags vendor body) ∙ simp (length-append, length_head, length-replicate) (omega arith)

pub length-written : (vendor code : ℕ) (mandatory : Bool) (body : List ℕ) → length (written vendor code mandatory body) ≡ cond (eqb vendor 0) 8 12 + padded (length body)
unfolding written
length-written vendor code mandatory body =
    length-received code (flags_for vendor mandatory) vendor body ∙ ap (λ (n : ℕ). n + padded (length body)) (head_size_for vendor mandatory)

-- an AVP of a stretch, written as it was received
pub received-at : (s : List ℕ) (at : ℕ) {a : Read} → a ≡ avp_at s at → received a.code a.flags a.vendor (data_of s a) ≡ as_received (avp_of (drop at s))
unfolding avp_at avp_of
received-at s at e = rw (e, data_at s at)

-- ---- by key and M

pub received_for : (vendor code : ℕ) (mandatory : Bool) (body : List ℕ) {flags : ℕ} → flags ≡ flags_for vendor mandatory
    → received code flags vendor body ≡ written vendor code mandatory body
unfolding written
received_for vendor code mandatory body e = ap (λ (f : ℕ). received code f vendor body) e

pub head_for : (vendor code n : ℕ) {flags : ℕ} → flags ≡ flags_for vendor true → head_bytes code flags vendor n ≡ group_head vendor code n
head_for vendor code n e = ap (λ (f : ℕ). head_bytes code f vendor n) e

-- ---- groups

-- a group is its header and its data, which is made of fours
pub group_parts : (vendor code : ℕ) (d : List ℕ) → length d % 4 ≡ 0 → group_head vendor code (length d) ++ d ≡ written vendor code true d
unfolding written
group_parts vendor code d e =
    let p : padded (length d) - length d ≡ 0 = rw (padded-whole (length d) e) (omega arith) in
    sym (received_parts code (flags_for vendor true) vendor d ∙ rw (p, append-nil))

pub length-group : (vendor code : ℕ) (d : List ℕ) → length d % 4 ≡ 0 → length (written vendor code true d) ≡ length (group_head vendor code (length d)) + length d
length-group vendor code d e = ap length (sym (group_parts vendor code d e)) ∙ length-append (group_head vendor code (length d)) d

module _ (vendor code : ℕ) (d : List ℕ) (e : length d % 4 ≡ 0) {l l₁ l₂ : List ℕ} {at : ℕ} where
  -- header first
  pub wrote-group : {a b : ℕ} → at ≤ length l → Wrote l at (group_head vendor code (length d)) l₁ a → Wrote l₁ a d l₂ b → Wrote l at (written vendor code true d) l₂ b
  wrote-group h w v = wrote-same (group_parts vendor code d e) (wrote_then h w v)

  -- parts first
  pub wrote-group_under : {r q : ℕ} → at + cond (eqb vendor 0) 8 12 ≤ length l → Wrote l (at + cond (eqb vendor 0) 8 12) d l₁ r
      → Wrote l₁ at (group_head vendor code (length d)) l₂ q → Wrote l at (written vendor code true d) l₂ r
  wrote-group_under {r} {q} h v w =
      let n : cond (eqb vendor 0) 8 12 ≡ length (group_head vendor code (length d)) =
      sym (length_head code (flags_for vendor true) vendor (length d) ∙ head_size_for vendor true) in
      wrote-same (group_parts vendor code d e) (wrote_under (rw n at h) (rw n at v) w)

-- what is asked where a group is closed, for any bound of its end
pub group_ask : (vendor : ℕ) {d : List ℕ} {w w₁ w₂ : Writer} {start bound : ℕ} → start ≡ w.at → Opened w (group_head_size vendor) w₁ → Appended w₁ d w₂ → w₂.at < bound
    → (start + group_head_size vendor ≤ w₂.at) × (w₂.at < bound) × Room w₂ 0
group_ask vendor e o p h =
    let a = o.at in
    let n = p.wrote.next in
    let i = p.inside in
    (omega arith, h, omega arith)

-- a group that is begun, filled and closed
pub appended_group : (vendor code : ℕ) (d : List ℕ) → length d % 4 ≡ 0 → {w w₁ w₂ w₃ : Writer} {start : ℕ} → start ≡ w.at
    → Opened w (group_head_size vendor) w₁ → Appended w₁ d w₂ → Closed w₂ vendor code start w₃ → Appended w (written vendor code true d) w₃
appended_group vendor code d f {w} {w₁} {w₂} {w₃} {start} e o p q =
    let i = p.inside in
    let z = p.size in
    let y = q.size in
    let k = o.size in
    let n = p.wrote.next in
    let a = o.at in
    let r : w₂.at - start - group_head_size vendor ≡ length d = omega arith in
    let s = head_size_for vendor true in
    let u : Wrote w₂.out.now w.at (group_head vendor code (length d)) w₃.out.now (w.at + length (group_head vendor code (length d))) =
    record { next = refl; made = rw (r, e) at q.made } in
    let v : Wrote w.out.now (w.at + cond (eqb vendor 0) 8 12) d w₂.out.now w₂.at = rw (o.kept, o.at, s) at p.wrote in
    let t = wrote-group_under vendor code d f (omega arith) v u in
    record { same = q.same ∙ p.same ∙ o.same; size = omega arith; inside = omega (arith, q.at); wrote = rw q.at t }

-- ---- at any place of any buffer

pub size-written : (vendor code : ℕ) (mandatory : Bool) (body : List ℕ) → length (written vendor code mandatory body) ≡ padded (head_size (flags_for vendor mandatory) + length body)
unfolding written
size-written vendor code mandatory body = length_as_received (record { code = code; flags = flags_for vendor mandatory; vendor = vendor; body = body })

module _ (out : List ℕ) (at vendor code : ℕ) (mandatory : Bool) (body : List ℕ) where
  refused : has_room out at vendor code mandatory body ≡ false → came_to not_written out ≡ avp_written out at vendor code mandatory body
  unfolding avp_written
  refused e = rw e

  pub too_long : 16777199 < length body → came_to not_written out ≡ avp_written out at vendor code mandatory body
  unfolding has_room
  too_long h = refused (and_left (ltb (length body) 16777200) (leb (at + length (written vendor code mandatory body)) (length out)) (le-ltb (length body) 16777200 (omega arith)))

  pub no_room : length out < at + padded (head_size (flags_for vendor mandatory) + length body) → came_to not_written out ≡ avp_written out at vendor code mandatory body
  unfolding has_room
  no_room h = refused (and_right (ltb (length body) 16777200) (leb (at + length (written vendor code mandatory body)) (length out)) (lt-leb (at + length (written vendor code mandatory body)) (length out) (rw (size-written vendor code mandatory body) h)))

  pub room : at + padded (head_size (flags_for vendor mandatory) + length body) ≤ length out → at + length (written vendor code mandatory body) ≤ length out
  room h = rw (size-written vendor code mandatory body) h

  pub wrote-avp : {r : ℕ} {out' : List ℕ} → length body < 16777200 → at + padded (head_size (flags_for vendor mandatory) + length body) ≤ length out
      → Wrote out at (written vendor code mandatory body) out' r → came_to (Ok r) out' ≡ avp_written out at vendor code mandatory body
  unfolding avp_written has_room
  wrote-avp h k w = rw (w.next, w.made, lt-ltb _ _ h, le-leb _ _ (room k))
