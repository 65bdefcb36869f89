-- What each case of Step stands for: the AVP at a place of a stretch, by the paper's definitions of the AVP at the front of one.
-- Assumes nothing.
use Rattle.std.specs.Prelude.{cond, List, ℕ, ◌+◌, length, drop, leb}
use Rattle.paper.specs.Avp.{head_size, padded, code_of, flags_of, length_of, vendor_of, framed}
use Rattle.dictionary.specs.declared.Key.{Key}
use Rattle.avp.specs.declared.cursor.Avp.{Avp}
use Rattle.avp.specs.declared.cursor.Step.{Step}
use Rattle.avp.specs.declared.cursor.Step.TheVariants.{Item, End, Bad}

-- the AVP at `at` of the stretch `s`, in the numbers of its header
unfoldable pub avp_at : List ℕ → ℕ → Avp
avp_at s at = record {
  at = at;
  code = code_of (drop at s);
  vendor = vendor_of (drop at s);
  flags = flags_of (drop at s);
  start = at + head_size (flags_of (drop at s));
  end = at + length_of (drop at s);
}

-- "An AVP's key is (vendor, code)"
abbrev pub key_at : Avp → Key
key_at a = record { vendor = a.vendor; code = a.code }

-- nothing past the end; an AVP that lies inside the stretch, and the place behind its padding; else a fault
unfoldable pub step_at : List ℕ → ℕ → Step
step_at s at =
    cond (leb (length s) at) End (cond (framed (drop at s)) (Item (avp_at s at) (record { at = at + padded (length_of (drop at s)) })) (Bad at))
