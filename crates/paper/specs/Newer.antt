-- Demand 3: a request from a newer node comes to what the request itself comes to. What such a node may add or change, as a relation of requests, and
-- the promises over `outcome`. Assumes nothing.
use Rattle.std.specs.Prelude.{◌≡◌, ◌≢◌, Bool, true, false, cond, ◌&&◌, ◌||◌, not, List, [], ◌∷◌, ◌++◌, map, ℕ, ◌+◌, ◌/◌, ◌%◌, ◌^◌, ◌≤◌, length, take, drop, replicate, eqb}
use Rattle.std.proofs.Math.Option.{Option, none, some}
use Rattle.wire.specs.Number.{be, num_at}
use Rattle.wire.specs.Put.{part, put}
use Rattle.dictionary.specs.declared.Kind.TheVariants.{Group, Unknown}
use Rattle.dictionary.specs.Rows.{key_of, kind_of}
use Rattle.paper.specs.Avp.{Avp, code_of, vendor_of, body_of, avp_of, as_received}
use Rattle.paper.specs.Reader.{avps, unbroken, most_groups}
use Rattle.paper.specs.Find.{member}
use Rattle.paper.specs.Widened.{OneAvp, SameKey, Widened, mended, stripped, flipped, Clear}
use Rattle.paper.specs.Layout.{message_header, least_request, most_request, cancel_size}
use Rattle.paper.specs.Profile.{Key, command_of, proxy_info, terminal_information, imei, ulr_flags, nor_flags, pur_flags}
use Rattle.paper.specs.Request.{version_of, message_length, is_request, is_proxiable, is_error, command_code, key_number, has, used_in, view_of}
use Rattle.paper.specs.Answer as Answer
use Rattle.paper.specs.Answer.{Verdict, base, answer}
use Rattle.paper.specs.Outcome.{Lent, Outcome, outcome}

-- ---- what a command uses, and what it sees of an AVP's data

-- "Used AVPs, Session-Id and Proxy-Info are looked for at the top level only, IMEI directly in Terminal-Information."
pub data Level : Type 0 where
  top_level : Level
  in_terminal : Level
  elsewhere : Level

abbrev pub is_key : Key → ℕ → ℕ → Bool
is_key k vendor code = eqb (key_of vendor code) (key_number k)

-- the level of what an AVP of this key holds
unfoldable pub below : Level → ℕ → ℕ → Level
below top_level vendor code = cond (is_key terminal_information vendor code) in_terminal elsewhere
below in_terminal vendor code = elsewhere
below elsewhere vendor code = elsewhere

-- the command uses an AVP of this key that stands at this level
unfoldable pub uses : ℕ → Level → ℕ → ℕ → Bool
uses command top_level vendor code = member (key_of vendor code) (map key_number (proxy_info ∷ used_in (command_of command)))
uses command in_terminal vendor code = is_key imei vendor code && has terminal_information (used_in (command_of command))
uses command elsewhere vendor code = false

-- these bits of a flag word
unfoldable pub bits_of : List ℕ → List ℕ → List ℕ
bits_of bits x = map (λ k. num_at 4 x 0 / 2 ^ k % 2) bits

-- The bits with a named use, clauses 7.3.7, 7.3.49, 7.3.149. ULR-Flags: Single-Registration 0, S6a/S6d-Indicator 1, Skip-Subscriber-Data 2,
-- Initial-Attach 5; NOR-Flags: Single-Registration 0; PUR-Flags: the two of PUR, 0 and 1. No other AVP is a flag word that a command uses.
unfoldable pub named_bits : ℕ → ℕ → Option (List ℕ)
named_bits vendor code =
    cond (is_key ulr_flags vendor code) (some (0 ∷ 1 ∷ 2 ∷ 5 ∷ []))
    (cond (is_key nor_flags vendor code) (some (0 ∷ []))
    (cond (is_key pur_flags vendor code) (some (0 ∷ 1 ∷ [])) none))

-- what of an AVP's data has a named use: those bits of a flag word, all of another AVP
abbrev pub of_bits : Option (List ℕ) → List ℕ → List ℕ
of_bits none x = x
of_bits (some bits) x = bits_of bits x

unfoldable pub named_use : ℕ → ℕ → List ℕ → List ℕ
named_use vendor code x = of_bits (named_bits vendor code) x

-- What the command sees of an AVP's data: of one that it uses all, of a flag word the bits with a named use; of any other AVP nothing.
unfoldable pub seen_by : ℕ → ℕ → ℕ → List ℕ → List ℕ
seen_by command vendor code x = cond (uses command top_level vendor code || uses command in_terminal vendor code) (named_use vendor code x) []

-- bit `k` is none of the bits with a named use
abbrev pub unnamed : Option (List ℕ) → ℕ → Bool
unnamed none k = false
unnamed (some bits) k = not (member k bits)

-- the command makes no use of bit `k` of such an AVP: it does not use the AVP, or that is a flag word and the bit has no named use
unfoldable pub spare_bit : ℕ → ℕ → ℕ → ℕ → Bool
spare_bit command vendor code k = cond (uses command top_level vendor code || uses command in_terminal vendor code) (unnamed (named_bits vendor code) k) true

-- ---- the request of a newer node

-- the header but for T, the reserved bits and the length field: version, R, P, E; command, application and both identifiers
pub record SameHeader (m n : List ℕ) : Type 0 where
  pub version : version_of n ≡ version_of m
  pub request : is_request n ≡ is_request m
  pub proxiable : is_proxiable n ≡ is_proxiable m
  pub error : is_error n ≡ is_error m
  pub rest : part 5 15 n ≡ part 5 15 m

-- the length field says how long the request is, and it is no longer than a request may be: "past it there is no answer"
pub record Fits (n : List ℕ) : Type 0 where
  pub mended : message_length n ≡ length n
  pub least : least_request ≤ length n
  pub most : length n ≤ most_request

-- `n` is the request `m` with unknown AVPs added or left out, lengths mended, and anything changed for which 01 names no use;
-- `a` is the first added AVP that has M, in the order of the visit.
pub record WidenedRequest (m n : List ℕ) (a : Option Avp) : Type 0 where
  pub header : SameHeader m n
  pub fits : Fits n
  pub avps : Widened kind_of (seen_by (command_code m)) (drop message_header m) (drop message_header n) a

-- the same buffers, lent with another request
unfoldable pub asking : Lent → List ℕ → Lent
asking l n = record { table = l.table; request = n; host = l.host; realm = l.realm; answer = l.answer; cancel = l.cancel }

-- "answered with success or an Experimental-Result"
pub data Accepting : Option Verdict → Type 0 where
  success : Accepting (some (base 2001))
  experimental : (code : ℕ) → Accepting (some (Answer.experimental code))

abbrev pub Accepted : Lent → Type 0
Accepted l = Accepting (outcome l).verdict

-- ---- the promises

-- "Answer, table and cancel buffer are the same, byte by byte", number and answer length with them.
abbrev pub NewerSame : Type 0
NewerSame = (l : Lent) (n : List ℕ) → Accepted l → WidenedRequest l.request n none → outcome (asking l n) ≡ outcome l

-- the answer that refuses the AVP `a`, with Session-Id and Proxy-Info as the request itself would have them echoed
unfoldable pub unsupported_answer : Lent → Avp → List ℕ
unsupported_answer l a = answer l.request l.host l.realm (record { verdict = base 5001; failed = some a; extra = []; echo = true })

-- what the buffers come to: "The table is unchanged"; 136 zero bytes in the cancel buffer
unfoldable pub unsupported_outcome : Lent → Avp → Outcome
unsupported_outcome l a =
    record {
      number = 0;
      size = length (unsupported_answer l a);
      verdict = some (base 5001);
      listed = 0;
      table = l.table;
      answer = put 0 (unsupported_answer l a) l.answer;
      cancel = put 0 (replicate cancel_size 0) l.cancel;
    }

-- "If an added AVP has M: Result-Code 5001, Failed-AVP with the first such AVP in visiting order".
abbrev pub NewerUnsupported : Type 0
NewerUnsupported = (l : Lent) (n : List ℕ) (a : Avp) → Accepted l → WidenedRequest l.request n (some a) → outcome (asking l n) ≡ unsupported_outcome l a

-- ---- known AVPs that the command does not use

-- `PutIn command y level s t`: `t` is the stretch `s` at this level with the AVP `y` put in, which the command does not use there, at a seam or inside a
-- group at any depth, the groups' lengths mended.
pub data PutIn (command : ℕ) (y : List ℕ) : Level → List ℕ → List ℕ → Type 0 where
  here : {level : Level} (a b : List ℕ) → unbroken (avps 0 a) ≡ true → uses command level (vendor_of y) (code_of y) ≡ false → PutIn command y level (a ++ b) (a ++ (y ++ b))
  within : {level : Level} (a x z b : List ℕ) → unbroken (avps 0 a) ≡ true → OneAvp x → OneAvp z → SameKey x z → kind_of (vendor_of x) (code_of x) ≡ Group
      → PutIn command y (below level (vendor_of x) (code_of x)) (body_of x) (body_of z) → PutIn command y level (a ++ (x ++ b)) (a ++ (z ++ b))

-- "A known AVP unused by the command has no effect": put in where the visit then finds no fault and no unknown AVP with M, or taken out
abbrev pub UnusedPutIn : Type 0
UnusedPutIn =
    (l : Lent) (n y : List ℕ) → Accepted l → SameHeader l.request n → Fits n → OneAvp y → kind_of (vendor_of y) (code_of y) ≢ Unknown
    → PutIn (command_code l.request) y top_level (drop message_header l.request) (drop message_header n) → Clear (view_of n) → outcome (asking l n) ≡ outcome l

abbrev pub UnusedTakenOut : Type 0
UnusedTakenOut =
    (l : Lent) (n y : List ℕ) → Accepted l → SameHeader l.request n → Fits n → OneAvp y → kind_of (vendor_of y) (code_of y) ≢ Unknown
    → PutIn (command_code l.request) y top_level (drop message_header n) (drop message_header l.request) → outcome (asking l n) ≡ outcome l

-- ---- ways to widen a request, each shown to be one

-- the header of `m`, its length field mended, and the AVPs `s`
unfoldable pub with_avps : List ℕ → List ℕ → List ℕ
with_avps m s = put 1 (be 3 (message_header + length s)) (take message_header m) ++ s

-- the request without its unknown AVPs
unfoldable pub stripped_request : List ℕ → List ℕ
stripped_request m = with_avps m (stripped kind_of most_groups (drop message_header m))

-- an AVP of 4 bytes of data with bit `k` of its value flipped
unfoldable pub word_flipped : ℕ → List ℕ → List ℕ
word_flipped k x = as_received (mended (avp_of x) (be 4 (flipped k (num_at 4 (body_of x) 0))))

-- `Replaced x z s t`: `t` is `s` with the AVP `z` for the AVP `x`, which stands at a seam or inside a group that is entered, at any depth, the groups'
-- lengths mended
pub data Replaced (x z : List ℕ) : List ℕ → List ℕ → Type 0 where
  instead : (a b : List ℕ) → unbroken (avps 0 a) ≡ true → Replaced x z (a ++ (x ++ b)) (a ++ (z ++ b))
  deeper : (a g h b : List ℕ) → unbroken (avps 0 a) ≡ true → OneAvp g → OneAvp h → SameKey g h → kind_of (vendor_of g) (code_of g) ≡ Group
      → Replaced x z (body_of g) (body_of h) → Replaced x z (a ++ (g ++ b)) (a ++ (h ++ b))
