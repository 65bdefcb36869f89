-- AVPs read and written again read as the same AVPs: one, and all of a stretch, by calls of `read_avp` and `write_avp`.
-- Assumes nothing.
use mathlib.Core.Path.{◌≡◌, refl, sym, ap, ◌∙◌, subst}
use mathlib.Core.Bool.{Bool, true, false, cond, not}
use mathlib.Core.List.{List, [], ◌∷◌, ◌++◌}
use Prim.Native.Nat.{ℕ, ◌+◌, ◌-◌, ◌≤◌, ◌<◌}
use native.Mathlib.Nat.{zero-add}
use native.Mathlib.Omega.{arith}
use lib.Dec.{ltb, eqb}
use lib.ListN.{length, take, drop, replicate, drop_of_length-le}
use lib.Seq.{length-take-le, drop_at}
use borrow.Author.Tests.{lt-ltb, le-leb, lt-leb, leb-true}
use Rattle.std.proofs.lemmas.Bool.{and_from, and_parts}
use Rattle.wire.specs.Number.{num_at, Bytes}
use Rattle.wire.specs.Stretch.{all_in}
use Rattle.wire.specs.Put.{part, put}
use Rattle.wire.proofs.ListLaws.{part-part, part-split}
use Rattle.wire.proofs.NumberLaws.{bytes_drop}
use Rattle.wire.proofs.PutLaws.{length-put, part-put, part-before}
use Rattle.paper.specs.Avp.{has_v, has_m, head_size, padded, flags_of, length_of, vendor_of, framed, after, avp_of, vendor_field, as_received, flags_for, written, written_again, Alike, alike_of}
use Rattle.paper.specs.Reader.{placed, avps, unbroken, alikes}
use Rattle.paper.specs.Widened.{OneAvp}
use Rattle.paper.proofs.AvpLaws.{head_size-most, padded-most, one-least, head_append, framed-append, avp-append, after-at}
use Rattle.paper.proofs.AvpsLaws.{avps_empty, avps-more, avps-one}
use Rattle.paper.proofs.WrittenLaws.{one-written_again, written_again_alike}
use Rattle.avp.specs.declared.cursor.Avp.{Avp}
use Rattle.avp.specs.declared.cursor.Step.TheVariants.{Item, End}
use Rattle.std.specs.Prelude.{Ok}
use Rattle.avp.specs.Found.{data_of}
use Rattle.avp.specs.Step.{avp_at, step_at}
use Rattle.avp.specs.Written.{Came, not_written, came_to, has_room, avp_written}
use Rattle.avp.proofs.StepLaws.{data_at, end-place, item-avp, item-framed, item-next}
use Rattle.avp.proofs.WriteLaws.{size-written}
use Rattle.promises.specs.Calls.{ReadAvpCall, WriteAvpCall}
use Rattle.promises.specs.Promises.{AvpAgain, AvpsAgain, RoomEnough}
use Rattle.promises.specs.Rewritten.{Again, Keeps, Rewritten, no_more, one_more}
use Rattle.promises.proofs.CallLaws.{bytes-seen}

-- ---- what a call that wrote left

-- the bytes that it wrote
abbrev bytes_of : WriteAvpCall → List ℕ
bytes_of w = written w.vendor w.code w.mandatory w.body

record Stored (w : WriteAvpCall) (to : ℕ) : Type 0 where
  room : w.at + length (bytes_of w) ≤ length w.out
  next : to ≡ w.at + length (bytes_of w)
  made : w.after ≡ put w.at (bytes_of w) w.out

abbrev room_for : WriteAvpCall → Bool
room_for w = has_room w.out w.at w.vendor w.code w.mandatory w.body

inside : (w : WriteAvpCall) → room_for w ≡ true → w.at + length (bytes_of w) ≤ length w.out
unfolding has_room
inside w e = leb-true (w.at + length (bytes_of w)) (length w.out) (and_parts (ltb (length w.body) 16777200) _ e).1

stored : (w : WriteAvpCall) (to : ℕ) → w.result ≡ Ok to → Stored w to
unfolding avp_written
stored w to e = go (room_for w) refl (sym (ap (λ r. came_to r w.after) e) ∙ w.met)
  where
    go : (b : Bool) → room_for w ≡ b → came_to (Ok to) w.after ≡ cond b (came_to (Ok (w.at + length (bytes_of w))) (put w.at (bytes_of w) w.out)) (came_to not_written w.out)
        → Stored w to
    go true h q =
        let u : Ok to ≡ Ok (w.at + length (bytes_of w)) = ap (λ (c : Came). c.answer) q in
        record { room = inside w h; next = cc; made = ap (λ (c : Came). c.out) q }
    go false h q = let u : Ok to ≡ not_written = ap (λ (c : Came). c.answer) q in let z : ◌≡◌ {A = ℕ} 0 1 = cc in absurd (omega arith)

enough : (w : WriteAvpCall) → length w.body < 16777200 → w.at + (12 + length w.body + 3) ≤ length w.out → room_for w ≡ true
unfolding has_room
enough w h k =
    let m = head_size-most (flags_for w.vendor w.mandatory) in
    let l = size-written w.vendor w.code w.mandatory w.body in
    let p = padded-most (head_size (flags_for w.vendor w.mandatory) + length w.body) in
    and_from _ _ (lt-ltb _ _ h) (le-leb (w.at + length (bytes_of w)) (length w.out) (omega arith))

pub room_enough : RoomEnough
unfolding avp_written
room_enough w h k = (w.at + length (bytes_of w), ap (λ (c : Came). c.answer) (rw (enough w h k) at w.met))

-- what stands behind the place that was put at
drop-put-at : (at : ℕ) (xs l : List ℕ) → at ≤ length l → drop at (put at xs l) ≡ xs ++ drop (at + length xs) l
unfolding put
drop-put-at at xs l h = drop_at (take at l) _ at (length-take-le at l h)

-- ---- the AVP that was read, and its bytes

-- "V unless vendor 0"
v_for : (vendor : ℕ) (mandatory : Bool) → has_v (flags_for vendor mandatory) ≡ not (eqb vendor 0)
unfolding flags_for
v_for vendor mandatory = go (eqb vendor 0) mandatory
  where
    go : (b m : Bool) → has_v (cond b 0 128 + cond m 64 0) ≡ not b
    go true true = refl
    go true false = refl
    go false true = refl
    go false false = refl

flags-written : (vendor code : ℕ) (mandatory : Bool) (body rest : List ℕ) → flags_of (written vendor code mandatory body ++ rest) ≡ flags_for vendor mandatory
unfolding written as_received
flags-written vendor code mandatory body rest = refl

read-bytes : (s : List ℕ) (at : ℕ) {a : Avp} → a ≡ avp_at s at → written a.vendor a.code (has_m a.flags) (data_of s a) ≡ written_again (avp_of (drop at s))
unfolding avp_at avp_of written_again
read-bytes s at e = rw (e, data_at s at)

-- key, M and data of the AVP at a place, by the paper's words
abbrev alike_in : List ℕ → Avp → Alike
alike_in s a = record { vendor = a.vendor; code = a.code; mandatory = has_m a.flags; body = data_of s a }

alike_at : (s : List ℕ) (at : ℕ) {a : Avp} → a ≡ avp_at s at → alike_in s a ≡ alike_of (avp_of (drop at s))
unfolding avp_at avp_of alike_of
alike_at s at e = rw (e, data_at s at)

module _ (r : ReadAvpCall) (a : Avp) (next : ℕ) (w : WriteAvpCall) (to : ℕ) (g : Again r a next w to) where
  front : List ℕ
  front = drop r.at r.stretch

  step : Item a (record { at = next }) ≡ step_at r.stretch r.at
  step = sym g.found ∙ r.met

  front_bytes : Bytes front
  unfolding front
  front_bytes = bytes_drop r.at r.stretch r.bytes

  front_framed : framed front ≡ true
  unfolding front
  front_framed = item-framed r.stretch r.at step

  same_bytes : bytes_of w ≡ written_again (avp_of front)
  unfolding front
  same_bytes = rw (g.vendor, g.code, g.mandatory, g.body) (read-bytes r.stretch r.at (item-avp r.stretch r.at step))

  one : OneAvp (bytes_of w)
  one = subst OneAvp (sym same_bytes) (one-written_again front front_bytes front_framed)

  alike : alike_of (avp_of (bytes_of w)) ≡ alike_of (avp_of front)
  alike = ap (λ (l : List ℕ). alike_of (avp_of l)) same_bytes ∙ written_again_alike front front_bytes front_framed

  behind : after front ≡ drop next r.stretch
  unfolding front
  behind = after-at r.at r.stretch ∙ ap (λ (k : ℕ). drop k r.stretch) (sym (item-next r.stretch r.at step))

  -- ---- one AVP

  rest : List ℕ
  rest = drop (w.at + length (bytes_of w)) w.out

  there : drop w.at w.after ≡ bytes_of w ++ rest
  unfolding rest
  there = let d = stored w to g.wrote in let h = d.room in rw d.made (drop-put-at w.at (bytes_of w) w.out (omega arith))

  step_there : step_at w.after w.at ≡ Item (avp_at w.after w.at) (record { at = to })
  unfolding step_at
  step_there =
      let d = stored w to g.wrote in
      let h = d.room in
      let k = one-least one in
      let n = ap length d.made ∙ length-put w.at (bytes_of w) w.out h in
      let f : framed (drop w.at w.after) ≡ true = rw there (framed-append one rest) in
      let e : w.at + padded (length_of (drop w.at w.after)) ≡ to = rw (there, (head_append one rest).size, ← one.exact) (sym d.next) in
      rw (lt-leb (length w.after) w.at (omega arith), f, e)

  keeps-alike : alike_in w.after (avp_at w.after w.at) ≡ alike_in r.stretch a
  unfolding front
  keeps-alike =
      alike_at w.after w.at refl
      ∙ ap (λ (l : List ℕ). alike_of (avp_of l)) there
      ∙ ap alike_of (avp-append one rest)
      ∙ alike
      ∙ sym (alike_at r.stretch r.at (item-avp r.stretch r.at step))

  keeps : Keeps r.stretch a w.after (avp_at w.after w.at)
  unfolding avp_at
  keeps =
      record {
        vendor = ap (λ (x : Alike). x.vendor) keeps-alike;
        code = ap (λ (x : Alike). x.code) keeps-alike;
        v = ap (λ (l : List ℕ). has_v (flags_of l)) there ∙ ap has_v (flags-written w.vendor w.code w.mandatory w.body rest) ∙ v_for w.vendor w.mandatory
            ∙ ap (λ (n : ℕ). not (eqb n 0)) g.vendor;
        mandatory = ap (λ (x : Alike). x.mandatory) keeps-alike;
        body = ap (λ (x : Alike). x.body) keeps-alike;
      }

pub avp_again : AvpAgain
avp_again r q w a next to g e p =
    let met : q.result ≡ step_at w.after w.at = rw (← e, ← p) q.met in (
      avp_at w.after w.at,
      met ∙ step_there r a next w to g,
      subst (λ (t : List ℕ). Keeps r.stretch a t (avp_at w.after w.at)) (sym e) (keeps r a next w to g),
    )

-- ---- all AVPs of a stretch

-- What the rest of a run leaves: no byte before the place `to` is touched, and from there to `n` stand the AVPs of `s` from `at` on.
record Ran (s : List ℕ) (n : ℕ) (last : List ℕ) (at to : ℕ) (out : List ℕ) : Type 0 where
  order : to ≤ n
  kept : take to last ≡ take to out
  filled : (p : ℕ) → unbroken (avps p (drop at s)) ≡ true
  filled_again : (p : ℕ) → unbroken (avps p (part to (n - to) last)) ≡ true
  same : (p q : ℕ) → alikes (avps q (part to (n - to) last)) ≡ alikes (avps p (drop at s))

ran_none : (n : ℕ) (last : List ℕ) (r : ReadAvpCall) → r.result ≡ End → Ran r.stretch n last r.at n last
unfolding unbroken alikes
ran_none n last r e =
    let z : n - n ≡ 0 = omega arith in
    let d : drop r.at r.stretch ≡ [] = drop_of_length-le r.stretch (end-place r.stretch r.at (sym e ∙ r.met)) in
    record {
      order = omega arith;
      kept = refl;
      filled = λ p. rw (d, avps_empty p);
      filled_again = λ p. rw (z, avps_empty p);
      same = λ p q. rw (z, d, avps_empty p, avps_empty q);
    }

-- a part that ends before the place `k`
part_front : (k at n : ℕ) (s t : List ℕ) → at + n ≤ k → take k s ≡ take k t → part at n s ≡ part at n t
part_front k at n s t h e = rw zero-add at (sym (part-part 0 k at n s h) ∙ ap (part at n) e ∙ part-part 0 k at n t h)

ran_more : (n : ℕ) (last : List ℕ) (r : ReadAvpCall) (a : Avp) (next : ℕ) (w : WriteAvpCall) (to : ℕ) → Again r a next w to
    → Ran r.stretch n last next to w.after → Ran r.stretch n last r.at w.at w.out
unfolding front unbroken alikes placed
ran_more n last r a next w to g i =
    let d = stored w to g.wrote in
    let h = d.room in
    let o = d.next in
    let m = i.order in
    let x = bytes_of w in
    let f = front_framed r a next w to g in
    let there = part_front to w.at (length x) last w.after (omega arith) i.kept ∙ ap (part w.at (length x)) d.made ∙ part-put w.at x w.out (omega arith) in
    let k : n - w.at ≡ length x + (n - to) = omega arith in
    let pieces : part w.at (n - w.at) last ≡ x ++ part to (n - to) last =
    rw (k, part-split w.at (length x) (n - to) last, there, ← d.next) in
    record {
      order = omega arith;
      kept = part_front to 0 w.at last w.after (omega arith) i.kept ∙ ap (take w.at) d.made ∙ part-before w.at 0 w.at x w.out h (omega arith);
      filled = λ p. ap unbroken (avps-more p _ f) ∙ rw (behind r a next w to g) (i.filled _);
      filled_again = λ p. rw (pieces, avps-one p (part to (n - to) last) (one r a next w to g)) (i.filled_again _);
      same = λ p q. rw (pieces, avps-one q (part to (n - to) last) (one r a next w to g), avps-more p _ f, behind r a next w to g, alike r a next w to g, i.same (p + padded (length_of (drop r.at r.stretch))) (q + length x));
    }

ran : {n : ℕ} {s last out : List ℕ} {at to : ℕ} → Rewritten s n last at to out → Ran s n last at to out
ran {n = n} {last = last} (no_more r e q) = subst (λ (l : List ℕ). Ran l n last r.at n last) e (ran_none n last r q)
ran {n = n} {last = last} (one_more r a next w to e g more) =
    subst (λ (l : List ℕ). Ran l n last r.at w.at w.out) e
    (ran_more n last r a next w to g (subst (λ (l : List ℕ). Ran l n last next to w.after) (sym e) (ran more)))

pub avps_again : AvpsAgain
avps_again s out last n c =
    let t = ran c in
    let z : n - 0 ≡ n = omega arith in
    record { filled = t.filled 0; filled_again = rw z at (t.filled_again 0); alike = rw z at (t.same 0 0) }

-- ---- not empty

-- Origin-Host mme2 with V and vendor 0, M and P
pub received-host : List ℕ
received-host = 0x00 ∷ 0x00 ∷ 0x01 ∷ 0x08 ∷ 0xE0 ∷ 0x00 ∷ 0x00 ∷ 0x10 ∷ 0x00 ∷ 0x00 ∷ 0x00 ∷ 0x00 ∷ 0x6D ∷ 0x6D ∷ 0x65 ∷ 0x32 ∷ []

-- written again without V, vendor and P, at the start of a buffer of 16 bytes
pub written-host : List ℕ
written-host = 0x00 ∷ 0x00 ∷ 0x01 ∷ 0x08 ∷ 0x40 ∷ 0x00 ∷ 0x00 ∷ 0x0C ∷ 0x6D ∷ 0x6D ∷ 0x65 ∷ 0x32 ∷ 0xFF ∷ 0xFF ∷ 0xFF ∷ 0xFF ∷ []

host-read : Avp
host-read = record { at = 0; code = 264; vendor = 0; flags = 0xE0; start = 12; end = 16 }

read-host : ReadAvpCall
unfolding received-host host-read all_in step_at avp_at framed head_size padded vendor_of num_at
read-host =
    record { stretch = received-host; bytes = bytes-seen received-host refl; at = 0; result = Item host-read (record { at = 16 }); met = refl }

read-end : ReadAvpCall
unfolding received-host all_in step_at
read-end = record { stretch = received-host; bytes = bytes-seen received-host refl; at = 16; result = End; met = refl }

write_host : WriteAvpCall
unfolding written-host avp_written has_room written as_received flags_for head_size padded vendor_field put
write_host =
    record {
      out = replicate 16 255;
      at = 0;
      vendor = 0;
      code = 264;
      mandatory = true;
      body = 0x6D ∷ 0x6D ∷ 0x65 ∷ 0x32 ∷ [];
      result = Ok 12;
      after = written-host;
      met = refl;
    }

-- there is such a run
pub host_again : Rewritten received-host 12 written-host 0 0 (replicate 16 255)
unfolding read-host read-end write_host host-read received-host
host_again =
    one_more read-host host-read 16 write_host 12 refl (record { found = refl; vendor = refl; code = refl; mandatory = refl; body = refl; wrote = refl })
    (no_more read-end refl refl)
