-- What code hands to the writer of an answer, in the paper's words: the verdict, the AVP that Failed-AVP shows, the AVPs of a success.
-- Assumes nothing.
use Rattle.std.specs.Prelude.{Bool, true, cond, List, [], ◌++◌, ℕ, ◌-◌, replicate, Option, Some, None}
use Rattle.std.proofs.Math.Option as Math
use Rattle.std.proofs.Math.Option.{none, some}
use Rattle.wire.specs.Put.{part}
use Rattle.paper.specs.declared.Verdict.{Verdict}
use Rattle.paper.specs.declared.Verdict.TheVariants.{Base, Experimental}
use Rattle.paper.specs.declared.Failed.{Failed}
use Rattle.paper.specs.declared.Failed.TheVariants.{Whole, Bare, Missing}
use Rattle.paper.specs.declared.Extra.{Extra}
use Rattle.paper.specs.declared.Extra.TheVariants.{Ula, Pua}
use Rattle.paper.specs.declared.Subscription.{Subscription}
use Rattle.paper.specs.Avp.{Avp, avp_of, bare_of, flags_for}
use Rattle.paper.specs.Profile.{ula_flags, pua_flags}
use Rattle.paper.specs.Answer as Answer
use Rattle.paper.specs.Answer.{Reply, number_item, subscription_of}

-- the two numberings
abbrev pub verdict_of : Verdict → Answer.Verdict
verdict_of (Base c) = Answer.base c.0
verdict_of (Experimental c) = Answer.experimental c.0

-- the stretch of the request from a place to the end of what encloses it
abbrev pub stretch : List ℕ → ℕ → ℕ → List ℕ
stretch m at to = part at (to - at) m

-- the AVP that is absent: "the dictionary's key, M, and four zero bytes for a 4-byte type, else no data"
abbrev pub absent : ℕ → ℕ → Bool → Avp
absent vendor code four = record { code = code; flags = flags_for vendor true; vendor = vendor; body = cond four (replicate 4 0) [] }

-- the AVP that Failed-AVP shows of the request `m`
abbrev pub shown_in : List ℕ → Failed → Avp
shown_in m (Whole at to) = avp_of (stretch m at to)
shown_in m (Bare at to) = bare_of (stretch m at to)
shown_in m (Missing key four) = absent key.vendor key.code four

-- and none where there is nothing to show
unfoldable pub failed_in : List ℕ → Option Failed → Math.Option Avp
failed_in m None = none
failed_in m (Some f) = some (shown_in m f)

-- Subscription-Data of these numbers, no bytes where it is skipped
abbrev pub subscription_in : Option Subscription → List ℕ
subscription_in None = []
subscription_in (Some s) = subscription_of s.restriction s.uplink s.downlink

-- "on success ULA-Flags 1, and Subscription-Data unless skipped, or PUA-Flags"
unfoldable pub extra_of : Option Extra → List ℕ
extra_of None = []
extra_of (Some (Ula subscription)) = number_item ula_flags 1 ++ subscription_in subscription
extra_of (Some (Pua flags)) = number_item pua_flags flags

-- the reply to the request `m` that the arguments of the writer stand for
unfoldable pub reply_of : List ℕ → Verdict → Option Failed → Option Extra → Bool → Reply
reply_of m verdict failed extra echo = record { verdict = verdict_of verdict; failed = failed_in m failed; extra = extra_of extra; echo = echo }
