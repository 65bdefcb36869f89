-- AVPs of a message stand in its own bytes: those of any stretch of it, and those inside an AVP.
-- Assumes nothing.
use mathlib.Core.Path.{◌≡◌, sym, ap, ◌∙◌}
use mathlib.Core.List.{List, []}
use Prim.Native.Nat.{ℕ, ◌+◌, ◌-◌, ◌≤◌, ◌<◌}
use native.Mathlib.Omega.{arith}
use lib.ListN.{length, drop, length-take, length-drop}
use lib.Seq.{take_all}
use Rattle.wire.specs.Put.{part}
use Rattle.wire.proofs.ListLaws.{part-part, length_part}
use Rattle.paper.specs.Avp.{Avp, head_size, flags_of, length_of, body_of, avp_of, bare_of}
use Rattle.paper.specs.Reader.{Placed, Avps, avps, body_at, bare}
use Rattle.paper.specs.Shown.{stretch}
use Rattle.paper.specs.ShownIn.{LiesIn, StandsIn, HeadIn}
use Rattle.paper.proofs.AvpLaws.{framed-sizes, padded-least, length-body}
use Rattle.paper.proofs.AvpsLaws.{Each, each_map, Stands, Breaks, avps_stand, stands_end, stands_least, stands_avp, breaks-end, breaks-avp}

-- ---- a stretch of the message

-- the end of a part is a part
part-drop : (at n k : ℕ) (m : List ℕ) → k ≤ n → drop k (part at n m) ≡ part (at + k) (n - k) m
part-drop at n k m h =
    sym (take_all (n - k) (drop k (part at n m)) (simp (length-drop, length-take) (omega arith))) ∙ part-part at n k (n - k) m (omega arith)

-- to the end of the message
pub stretch-rest : (at : ℕ) (m : List ℕ) → stretch m at (length m) ≡ drop at m
stretch-rest at m = take_all (length m - at) (drop at m) (rw length-drop (omega arith))

-- what stands in a part of the message stands in the message
module _ (m : List ℕ) (at n : ℕ) (fits : at + n ≤ length m) where
  -- a place of the part, by places of the message
  lies_in_lem : (q to : ℕ) → q < at + length (part at n m) → to ≡ at + length (part at n m) → LiesIn m q to
  lies_in_lem q to b e =
      let l = length_part at n m fits in
      record { order = omega arith; fits = omega arith }

  rest_in : (q to : ℕ) → at ≤ q → q < at + length (part at n m) → to ≡ at + length (part at n m) → drop (q - at) (part at n m) ≡ stretch m q to
  rest_in q to f b e =
      let l = length_part at n m fits in
      let i : at + (q - at) ≡ q = omega arith in
      let j : n - (q - at) ≡ to - q = omega arith in
      part-drop at n (q - at) m (omega arith) ∙ rw (i, j)

  stands_in : (p : Placed) → Stands at (part at n m) p → StandsIn m p
  stands_in p t =
      let f = t.from in
      let e = stands_end at (part at n m) p t in
      let l = stands_least at (part at n m) p t in
      let s = rest_in p.at p.end f (omega arith) e in
      record {
        lies = lies_in_lem p.at p.end (omega arith) e;
        right = rw s at t.right;
        avp = stands_avp at (part at n m) p t ∙ ap avp_of s;
      }

  breaks_in : (p : Placed) → Breaks at (part at n m) p → HeadIn m p
  breaks_in p t =
      let e = breaks-end at (part at n m) p t in
      record {
        lies = lies_in_lem p.at p.end t.before e;
        avp = breaks-avp at (part at n m) p t ∙ ap bare_of (rest_in p.at p.end t.from t.before e);
      }

-- every AVP of the list stands in `m`, and so does what breaks it
abbrev pub AllIn : List ℕ → Avps → Type 0
AllIn m l = Each (StandsIn m) (HeadIn m) l

pub part_all_in : (m : List ℕ) (at n : ℕ) → at + n ≤ length m → AllIn m (avps at (part at n m))
part_all_in m at n fits = each_map (stands_in m at n fits) (breaks_in m at n fits) (avps at (part at n m)) (avps_stand at (part at n m))

-- ---- one AVP

pub head_in : (m : List ℕ) (p : Placed) → StandsIn m p → HeadIn m (bare p)
unfolding bare_of avp_of
head_in m p t =
    record { lies = t.lies; avp = ap (λ (a : Avp). record { code = a.code; flags = a.flags; vendor = a.vendor; body = [] }) t.avp }

module _ (m : List ℕ) (p : Placed) (t : StandsIn m p) where
  abbrev own : List ℕ
  own = stretch m p.at p.end

  own_length : length own ≡ p.end - p.at
  own_length = let l = t.lies in length_part p.at (p.end - p.at) m (omega arith)

  own-flags : p.avp.flags ≡ flags_of own
  unfolding avp_of
  own-flags = ap (λ (a : Avp). a.flags) t.avp

  own_body : p.avp.body ≡ body_of own
  unfolding avp_of
  own_body = ap (λ (a : Avp). a.body) t.avp

  body-size : length p.avp.body ≡ length_of own - head_size (flags_of own)
  body-size = ap length own_body ∙ length-body own t.right

  -- its data ends before what encloses it does
  pub body-before : body_at p + length p.avp.body ≤ p.end
  body-before =
      let l = t.lies in
      let n = own_length in
      let f = framed-sizes own t.right in
      let g = padded-least (length_of own) in
      rw (own-flags, body-size) (omega arith)

  pub body-fits : body_at p + length p.avp.body ≤ length m
  body-fits = let b = body-before in let l = t.lies in omega arith

  -- the data is that part of the message
  pub body-part : part (body_at p) (length p.avp.body) m ≡ p.avp.body
  unfolding body_of
  body-part =
      let n = own_length in
      let f = framed-sizes own t.right in
      let g = padded-least (length_of own) in
      let hs : ℕ = head_size (flags_of own) in
      let k : ℕ = length_of own - hs in
      let inner : part hs k own ≡ part (p.at + hs) k m = part-part p.at (p.end - p.at) hs k m (omega arith) in
      rw (body-size, own-flags) (sym inner ∙ sym own_body)

  pub inside_all_in : AllIn m (avps (body_at p) p.avp.body)
  inside_all_in = rw body-part at (part_all_in m (body_at p) (length p.avp.body) body-fits)
