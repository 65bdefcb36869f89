-- The relation of requests is wide enough: one AVP more at any seam and at any depth, each ignored bit of the header, of an AVP's flags and of a flag
-- word, data that is not seen; and every request without faults widens itself without its unknown AVPs. Assumes nothing.
use mathlib.Core.Path.{◌≡◌, refl, sym, ap, ◌∙◌}
use mathlib.Core.Logic.{◌≢◌}
use mathlib.Core.Bool.{Bool, true, false, cond, ◌||◌, false≢true}
use mathlib.Core.Option.{Option, none, some}
use mathlib.Core.List.{List, [], ◌∷◌, ◌++◌, map}
use Prim.Native.Nat.{ℕ, ◌+◌, ◌/◌, ◌%◌, ◌^◌, ◌<◌, ◌≤◌}
use native.Mathlib.Omega.{arith}
use lib.Dec.{eqb}
use borrow.Author.Tests.{not-true, eqb-true, eqb-false}
use lib.ListN.{length, take, drop, get_or, length-append, length-set, get_or-append}
use lib.Seq.{drop_at, get_or-set_same, get_or-set_other, drop-set-lt, length-take-le, get_or-take}
use Rattle.wire.specs.Number.{be, num_at, Bytes}
use Rattle.wire.specs.Put.{part, put}
use Rattle.wire.proofs.ListLaws.{part-append-left, part-part}
use Rattle.wire.proofs.NumberLaws.{length-be, num_at_agree, num_at-append-left, num_at-lt, num_at-be, bytes_drop}
use Rattle.wire.proofs.PutLaws.{length-put, put-before, put-after, part-after, read_back}
use Rattle.dictionary.specs.Rows.{kind_of}
use Rattle.dictionary.specs.Kinds.{size_right}
use Rattle.dictionary.specs.declared.Kind.TheVariants.{Four, Group, Unknown}
use Rattle.paper.specs.Avp.{Avp, head_size, code_of, flags_of, length_of, vendor_of, body_of, avp_of, as_received}
use Rattle.paper.specs.Reader.{view, most_groups}
use Rattle.paper.specs.Find.{member}
use Rattle.paper.specs.Widened.{OneAvp, if_mandatory, Widened, mended, stripped, Inserted, with_flags, flipped, Clear, shown_of}
use Rattle.paper.specs.Layout.{message_header, least_request, most_request}
use Rattle.paper.specs.Request.{message_length, command_code, view_of}
use Rattle.paper.specs.Outcome.{Lent, outcome}
use Rattle.paper.specs.Newer.{top_level, in_terminal, uses, bits_of, named_bits, of_bits, named_use, seen_by, unnamed, spare_bit, SameHeader, Fits, WidenedRequest, asking, Accepted, with_avps, stripped_request, word_flipped, Replaced, instead, deeper}
use Rattle.paper.proofs.AvpLaws.{head_size-most}
use Rattle.paper.proofs.ViewLaws.{view-one}
use Rattle.paper.proofs.WidenedView.{clear_first, clear-rest}
use Rattle.paper.proofs.FlagBits.{flip_other, flipped_less}
use Rattle.paper.proofs.Cover.{widened_refl, widened_append, widened_anywhere, widened_inside, before_seam, behind_seam, inside-clear, flag_flips, padding_free, data_free}
use Rattle.paper.proofs.WrittenLaws.{bytes-body}
use Rattle.paper.proofs.Stripped.{widened_stripped}
use Rattle.paper.proofs.TestLaws.{or-false-left, or-false-right}
use Rattle.paper.proofs.NewerTree.{view-refused}
use Rattle.paper.proofs.KindLaws.{leaf-not-group, leaf-not-unknown}
use Rattle.paper.proofs.NewerRequest.{command_kept, passes-clear, clear-seen}
use Rattle.paper.proofs.NewerAccepted.{accepted-least, accepted-passes}
use Rattle.paper.proofs.Newer.{newer_same}

-- ---- a request with other AVPs

module _ (m s : List ℕ) (least : least_request ≤ length m) where
  header : List ℕ
  header = put 1 (be 3 (message_header + length s)) (take message_header m)

  length-first : length (take message_header m) ≡ message_header
  length-first = length-take-le message_header m least

  length-header : length header ≡ message_header
  unfolding header
  length-header = let a = length-first in let b = length-be 3 (message_header + length s) in length-put 1 (be 3 (message_header + length s)) (take message_header m) (omega arith) ∙ a

  first_byte : get_or (with_avps m s) 0 0 ≡ get_or m 0 0
  unfolding with_avps header
  first_byte =
      let a = length-header in
      let b = length-first in
      get_or-append header s 0 0 (omega arith) ∙ put-before 1 0 (be 3 (message_header + length s)) (take message_header m) (omega arith) (omega arith) ∙ get_or-take message_header m 0 0 (omega arith)

  -- the byte of the flags
  flag_byte : get_or (with_avps m s) 4 0 ≡ get_or m 4 0
  unfolding with_avps header
  flag_byte =
      let a = length-header in
      let b = length-first in
      let d = length-be 3 (message_header + length s) in
      get_or-append header s 0 4 (omega arith) ∙ put-after 1 4 (be 3 (message_header + length s)) (take message_header m) (omega arith) (omega arith) ∙ get_or-take message_header m 4 0 (omega arith)

  pub length_with : length (with_avps m s) ≡ message_header + length s
  unfolding with_avps header
  length_with = length-append header s ∙ rw length-header

  pub avps_with : drop message_header (with_avps m s) ≡ s
  unfolding with_avps header
  avps_with = drop_at header s message_header length-header

  rest_with : part 5 15 (with_avps m s) ≡ part 5 15 m
  unfolding with_avps header
  rest_with =
      let a = length-header in
      let b = length-first in
      let d = length-be 3 (message_header + length s) in
      part-append-left 5 15 header s (omega arith) ∙ part-after 1 5 15 (be 3 (message_header + length s)) (take message_header m) (omega arith) (omega arith)
      ∙ part-part 0 message_header 5 15 m (omega arith)

  pub header_with : SameHeader m (with_avps m s)
  header_with =
      let f = flag_byte in
      record { version = first_byte; request = rw f; proxiable = rw f; error = rw f; rest = rest_with }

  size_with : message_header + length s ≤ most_request → message_length (with_avps m s) ≡ message_header + length s
  unfolding with_avps header
  size_with h =
      let a = length-header in
      let b = length-first in
      num_at-append-left 3 header s 1 (omega arith) ∙ read_back 1 3 (message_header + length s) (take message_header m) (omega arith) (omega arith)

  pub fits_with : message_header + length s ≤ most_request → Fits (with_avps m s)
  fits_with h = record { mended = size_with h ∙ sym length_with; least = rw length_with (omega arith); most = rw length_with h }

-- what widens the AVPs of a request widens the request
pub request_widens : (m t : List ℕ) (a : Option Avp) → least_request ≤ length m → message_header + length t ≤ most_request
    → Widened kind_of (seen_by (command_code m)) (drop message_header m) t a → WidenedRequest m (with_avps m t) a
request_widens m t a l h w = record { header = header_with m t l; fits = fits_with m t l h; avps = rw (avps_with m t l) w }

-- ---- one AVP more, at any seam and at any depth, with M or without

pub insert_widens : (m y t : List ℕ) → least_request ≤ length m → message_header + length t ≤ most_request → Clear (view_of m) → OneAvp y → kind_of (vendor_of y) (code_of y) ≡ Unknown
    → Inserted kind_of y (drop message_header m) t → WidenedRequest m (with_avps m t) (if_mandatory (avp_of y))
insert_widens m y t l h c o u i =
    request_widens m t (if_mandatory (avp_of y)) l h
    (widened_anywhere kind_of (seen_by (command_code m)) i o u most_groups message_header (clear-seen (command_code m) m c))

-- ---- every request without faults widens itself without its unknown AVPs

header_back : (m n : List ℕ) → SameHeader m n → SameHeader n m
header_back m n h = record { version = sym h.version; request = sym h.request; proxiable = sym h.proxiable; error = sym h.error; rest = sym h.rest }

pub stripped_widens : (m : List ℕ) → Bytes m → Fits m → (view_of m).fault ≡ none → WidenedRequest (stripped_request m) m (shown_of (view_of m).unsupported)
unfolding stripped_request view_of
stripped_widens m b f e =
    let s = stripped kind_of most_groups (drop message_header m) in
    let h = header_with m s f.least in
    let r = view-refused kind_of (seen_by (command_code m)) (λ vendor code x. x) most_groups message_header (drop message_header m) in
    let w = widened_stripped kind_of (seen_by (command_code m)) most_groups message_header (drop message_header m) (bytes_drop message_header m b) (r.fault ∙ e) in
    record { header = header_back m (with_avps m s) h; fits = f; avps = rw (avps_with m s f.least, command_kept m (with_avps m s) h, sym r.unsupported) w }

-- ---- the ignored bits of the header: T (bit 4) and the four reserved ones

pub header_flips : (k : ℕ) → k < 5 → (m : List ℕ) → Fits m → Clear (view_of m) → WidenedRequest m (with_flags (flipped k (get_or m 4 0)) m) none
unfolding with_flags
header_flips k h m f c =
    let fl : ℕ = flipped k (get_or m 4 0) in
    let l = f.least in
    let e : get_or (with_flags fl m) 4 0 ≡ fl = get_or-set_same m 4 fl 0 (omega arith) in
    record {
      header =
          record {
            version = get_or-set_other m 4 0 fl 0 (omega arith);
            request = rw (e, flip_other 7 k (get_or m 4 0) (omega arith));
            proxiable = rw (e, flip_other 6 k (get_or m 4 0) (omega arith));
            error = rw (e, flip_other 5 k (get_or m 4 0) (omega arith));
            rest = ap (take 15) (drop-set-lt 5 m 4 fl (omega arith));
          };
      fits =
          record {
            mended = num_at_agree 3 1 1 (with_flags fl m) m (λ i j. get_or-set_other m 4 (1 + i) fl 0 (omega arith)) ∙ f.mended ∙ sym (length-set m 4 fl);
            least = rw length-set f.least;
            most = rw length-set f.most;
          };
      avps = rw (drop-set-lt message_header m 4 fl (omega arith)) (widened_refl kind_of (seen_by (command_code m)) most_groups message_header (drop message_header m) (clear-seen (command_code m) m c));
    }

-- ---- an AVP replaced, at any seam and at any depth

module _ (seen : ℕ → ℕ → List ℕ → List ℕ) {x z : List ℕ} (o : OneAvp x)
    (step : (left at : ℕ) (b : List ℕ) → Clear (view kind_of seen left at (x ++ b)) → Widened kind_of seen b b none → Widened kind_of seen (x ++ b) (z ++ b) none) where
  replaced_widens : {s t : List ℕ} → Replaced x z s t → (left at : ℕ) → Clear (view kind_of seen left at s) → Widened kind_of seen s t none
  replaced_widens (instead a b u) left at c =
      let d = behind_seam kind_of seen left at a (x ++ b) u c in
      let r = clear-rest _ _ (rw (view-one kind_of seen left (length a) b o) at d) in
      widened_append kind_of seen (before_seam kind_of seen left at a (x ++ b) u c) (step left (length a) b d (widened_refl kind_of seen left (length a + length x) b r))
  replaced_widens (deeper a g h b u og oh k q i) left at c =
      let d = rw (view-one kind_of seen left (length a) b og) at (behind_seam kind_of seen left at a (g ++ b) u c) in
      inside-clear kind_of seen left (length a) (length a + length (g ++ b)) g q (clear_first _ _ d) (Widened kind_of seen (a ++ (g ++ b)) (a ++ (h ++ b)) none)
      (λ l p r. widened_inside kind_of seen left at a g h b none u c og oh k q (replaced_widens i l p r))

-- ---- a flag word with one bit flipped

-- a bit as a number
bit-number : (a b : ℕ) → eqb (a % 2) 1 ≡ eqb (b % 2) 1 → a % 2 ≡ b % 2
bit-number a b e = go (eqb (a % 2) 1) (eqb (b % 2) 1) refl refl e
  where
    go : (p q : Bool) → eqb (a % 2) 1 ≡ p → eqb (b % 2) 1 ≡ q → p ≡ q → a % 2 ≡ b % 2
    go true true f g h = eqb-true _ _ f ∙ sym (eqb-true _ _ g)
    go false false f g h = let x = eqb-false (a % 2) 1 f in let y = eqb-false (b % 2) 1 g in omega arith
    go true false f g h = absurd (false≢true (sym h))
    go false true f g h = absurd (false≢true h)

bits_kept : (k w : ℕ) (bits : List ℕ) → member k bits ≡ false → map (λ j. flipped k w / 2 ^ j % 2) bits ≡ map (λ j. w / 2 ^ j % 2) bits
unfolding member
bits_kept k w [] h = refl
bits_kept k w (j ∷ bits) h =
    let n = eqb-false k j (or-false-left (eqb k j) (member k bits) h) in
    rw (bit-number (flipped k w / 2 ^ j) (w / 2 ^ j) (flip_other j k w (λ e. n (sym e))), bits_kept k w bits (or-false-right (eqb k j) (member k bits) h))

word_value : (k : ℕ) (x : List ℕ) → k < 32 → Bytes x → num_at 4 (be 4 (flipped k (num_at 4 x 0))) 0 ≡ flipped k (num_at 4 x 0)
word_value k x h b = let l = num_at-lt 4 x 0 b in num_at-be 4 (flipped k (num_at 4 x 0)) [] (flipped_less k 32 (num_at 4 x 0) h l)

spare_seen : (c vendor code k : ℕ) (x : List ℕ) → spare_bit c vendor code k ≡ true → k < 32 → Bytes x
    → seen_by c vendor code (be 4 (flipped k (num_at 4 x 0))) ≡ seen_by c vendor code x
unfolding spare_bit seen_by named_use bits_of
spare_seen c vendor code k x e h b = used (uses c top_level vendor code || uses c in_terminal vendor code) (named_bits vendor code) e
  where
    d : List ℕ
    d = be 4 (flipped k (num_at 4 x 0))

    used : (u : Bool) (o : Option (List ℕ)) → cond u (unnamed o k) true ≡ true → cond u (of_bits o d) [] ≡ cond u (of_bits o x) []
    used false o q = refl
    used true none q = absurd (false≢true q)
    used true (some bits) q = rw (word_value k x h b) (bits_kept k (num_at 4 x 0) bits (not-true (member k bits) q))

-- ---- a request with one AVP replaced

module _ (m t : List ℕ) (least : least_request ≤ length m) (most : message_header + length t ≤ most_request) (c : Clear (view_of m)) where
  abbrev Seen : ℕ → ℕ → List ℕ → List ℕ
  Seen = seen_by (command_code m)

  replaced_request : {x z : List ℕ} → OneAvp x
      → ((left at : ℕ) (b : List ℕ) → Clear (view kind_of Seen left at (x ++ b)) → Widened kind_of Seen b b none → Widened kind_of Seen (x ++ b) (z ++ b) none)
      → Replaced x z (drop message_header m) t → WidenedRequest m (with_avps m t) none
  replaced_request o step r = request_widens m t none least most (replaced_widens Seen o step r most_groups message_header (clear-seen (command_code m) m c))

  -- each flag bit of an AVP but V may be flipped, M (bit 6) of known AVPs alone
  pub flag_widens : (k : ℕ) → k < 7 → {x : List ℕ} → OneAvp x → (kind_of (vendor_of x) (code_of x) ≡ Unknown → k < 6)
      → Replaced x (with_flags (flipped k (flags_of x)) x) (drop message_header m) t → WidenedRequest m (with_avps m t) none
  flag_widens k h o u r = replaced_request o (λ left at b q w. flag_flips kind_of Seen k h o u left at b q b none w) r

  -- what stands behind the length of an AVP is free
  pub padding_widens : {x z : List ℕ} → OneAvp x → OneAvp z → ((j : ℕ) → j < length_of x → get_or z j 0 ≡ get_or x j 0)
      → Replaced x z (drop message_header m) t → WidenedRequest m (with_avps m t) none
  padding_widens o p a r = replaced_request o (λ left at b q w. padding_free o p a kind_of Seen left at b q b none w) r

  -- data of a size that the type allows, of which the command sees the same
  pub data_widens : {x : List ℕ} (d : List ℕ) → OneAvp x → Bytes x → kind_of (vendor_of x) (code_of x) ≢ Group → kind_of (vendor_of x) (code_of x) ≢ Unknown
      → head_size (flags_of x) + length d < 256 ^ 3 → size_right (kind_of (vendor_of x) (code_of x)) (length d) ≡ true
      → Seen (vendor_of x) (code_of x) d ≡ Seen (vendor_of x) (code_of x) (body_of x)
      → Replaced x (as_received (mended (avp_of x) d)) (drop message_header m) t → WidenedRequest m (with_avps m t) none
  data_widens d o y g u h z e r = replaced_request o (λ left at b q w. data_free kind_of Seen o y g u d h z e w) r

  -- each bit of a 4-byte AVP of which the command makes no use
  pub word_widens : (k : ℕ) → k < 32 → {x : List ℕ} → OneAvp x → Bytes x → kind_of (vendor_of x) (code_of x) ≡ Four
      → spare_bit (command_code m) (vendor_of x) (code_of x) k ≡ true → Replaced x (word_flipped k x) (drop message_header m) t → WidenedRequest m (with_avps m t) none
  unfolding word_flipped
  word_widens k h {x} o y f e r =
      let d : List ℕ = be 4 (flipped k (num_at 4 (body_of x) 0)) in
      let l = head_size-most (flags_of x) in
      data_widens d o y (leaf-not-group (kind_of (vendor_of x) (code_of x)) (rw f)) (leaf-not-unknown (kind_of (vendor_of x) (code_of x)) (rw f)) (omega arith) (rw f) (spare_seen (command_code m) (vendor_of x) (code_of x) k (body_of x) e h (bytes-body x y)) r

-- ---- what comes of it: M of a known AVP changes nothing, wherever the AVP stands

pub known-mandatory_free : (l : Lent) (t : List ℕ) {x : List ℕ} → Accepted l → message_header + length t ≤ most_request → OneAvp x → kind_of (vendor_of x) (code_of x) ≢ Unknown
    → Replaced x (with_flags (flipped 6 (flags_of x)) x) (drop message_header l.request) t → outcome (asking l (with_avps l.request t)) ≡ outcome l
known-mandatory_free l t h most o u r =
    let m = l.request in
    newer_same l (with_avps m t) h
    (flag_widens m t (accepted-least l h) most (passes-clear m (accepted-passes l h)) 6 (omega arith) o (λ e. absurd (u e)) r)
