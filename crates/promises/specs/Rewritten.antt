-- AVPs read and written again, by calls of `read_avp` and `write_avp`: one AVP, and the AVPs of a stretch from its start to its end.
-- Assumes nothing.
use Rattle.std.specs.Prelude.{◌≡◌, true, not, List, ℕ, eqb, Ok}
use Rattle.paper.specs.Avp.{has_v, has_m}
use Rattle.paper.specs.Reader.{avps, unbroken, alikes}
use Rattle.avp.specs.declared.cursor.Avp.{Avp}
use Rattle.avp.specs.declared.cursor.Step.TheVariants.{Item, End}
use Rattle.avp.specs.Found.{data_of}
use Rattle.promises.specs.Calls.{ReadAvpCall, WriteAvpCall}

-- The call `r` read the AVP `a`, which ends before the place `next`; the call `w` was given its key, M and data, and wrote it before the place `to`.
pub record Again (r : ReadAvpCall) (a : Avp) (next : ℕ) (w : WriteAvpCall) (to : ℕ) : Type 0 where
  pub found : r.result ≡ Item a (record { at = next })
  pub vendor : w.vendor ≡ a.vendor
  pub code : w.code ≡ a.code
  pub mandatory : w.mandatory ≡ has_m a.flags
  pub body : w.body ≡ data_of r.stretch a
  pub wrote : w.result ≡ Ok to

-- "An AVP written again keeps key (V unless vendor 0), M and data": of the AVP `a` of the bytes `s`, the AVP `b` of the bytes `t`
pub record Keeps (s : List ℕ) (a : Avp) (t : List ℕ) (b : Avp) : Type 0 where
  pub vendor : b.vendor ≡ a.vendor
  pub code : b.code ≡ a.code
  pub v : has_v b.flags ≡ not (eqb a.vendor 0)
  pub mandatory : has_m b.flags ≡ has_m a.flags
  pub body : data_of t b ≡ data_of s a

-- The AVPs of the stretch `s` from the place `at` to its end are read and written again, one call of each after another: the first goes to the place `to` of
-- the buffer `out`, each further one to where the one before it ended. The last ends before the place `n`, and the buffer is then `after`.
pub data Rewritten (s : List ℕ) (n : ℕ) (after : List ℕ) : (at to : ℕ) (out : List ℕ) → Type 0 where
  no_more : (r : ReadAvpCall) → r.stretch ≡ s → r.result ≡ End → Rewritten s n after r.at n after
  one_more : (r : ReadAvpCall) (a : Avp) (next : ℕ) (w : WriteAvpCall) (to : ℕ) → r.stretch ≡ s → Again r a next w to
      → Rewritten s n after next to w.after → Rewritten s n after r.at w.at w.out

-- "AVPs alike in these are the same": the stretches `s` and `t` hold nothing but AVPs, those of `t` have key, M and data of those of `s`, one by one
pub record SameAvps (s t : List ℕ) : Type 0 where
  pub filled : unbroken (avps 0 s) ≡ true
  pub filled_again : unbroken (avps 0 t) ≡ true
  pub alike : alikes (avps 0 t) ≡ alikes (avps 0 s)
