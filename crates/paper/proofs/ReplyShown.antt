-- The replies of the paper by what code hands to the writer of the answer.
-- Assumes nothing.
use mathlib.Core.Path.{◌≡◌, refl}
use mathlib.Core.Bool.{Bool, true, false}
use mathlib.Core.List.{List, []}
use Prim.Native.Nat.{ℕ, ◌+◌}
use Rattle.std.specs.Prelude.{Option, Some, None, cond}
use Rattle.wire.specs.Number.{num_at}
use Rattle.paper.specs.declared.Verdict.TheVariants.{Base, Experimental}
use Rattle.paper.specs.declared.Failed.{Failed}
use Rattle.paper.specs.declared.Extra.{Extra}
use Rattle.paper.specs.declared.Extra.TheVariants.{Ula, Pua}
use Rattle.paper.specs.Layout.{ambr_at}
use Rattle.paper.specs.Request.{Refusal}
use Rattle.paper.specs.Procedures.{restriction_of, Done, is_ulr, is_pur, skip_subscriber_data}
use Rattle.paper.specs.Outcome.{refusal_reply, experimental_reply, success_items, success_reply}
use Rattle.paper.specs.declared.Subscription.{Subscription}
use Rattle.paper.specs.Answer.{subscription_of}
use Rattle.paper.specs.Shown.{failed_in, subscription_in, extra_of, reply_of}

-- ---- the AVPs of a success

subscription-unless : (skip : Bool) (s : Subscription) → subscription_in (cond skip None (Some s)) ≡ cond skip [] (subscription_of s.restriction s.uplink s.downlink)
subscription-unless true s = refl
subscription-unless false s = refl

module _ (m r : List ℕ) (d : Done) where
  -- of a ULR
  pub ula_shown : is_ulr m ≡ true → {skip : Bool} {restriction uplink downlink : ℕ}
      → skip ≡ skip_subscriber_data m → restriction ≡ restriction_of r → uplink ≡ num_at 4 r ambr_at → downlink ≡ num_at 4 r (ambr_at + 4)
      → extra_of (Some (Ula (cond skip None (Some (record { restriction = restriction; uplink = uplink; downlink = downlink }))))) ≡ success_items m r d
  unfolding extra_of success_items
  ula_shown u {skip} {restriction} {uplink} {downlink} e₁ e₂ e₃ e₄ =
      rw (subscription-unless skip (record { restriction = restriction; uplink = uplink; downlink = downlink }), u, e₁, e₂, e₃, e₄)

  -- of a PUR
  pub pua_shown : is_ulr m ≡ false → is_pur m ≡ true → {flags : ℕ} → flags ≡ d.purges → extra_of (Some (Pua flags)) ≡ success_items m r d
  unfolding extra_of success_items
  pua_shown u p e = rw (u, p, e)

  -- of a NOR
  pub noa_shown : is_ulr m ≡ false → is_pur m ≡ false → extra_of None ≡ success_items m r d
  unfolding extra_of success_items
  noa_shown u p = rw (u, p)

-- ---- the replies

pub refusal-shown : (m : List ℕ) (x : Refusal) (f : Option Failed) → failed_in m f ≡ x.failed → reply_of m (Base (record { 0 = x.code })) f None x.echo ≡ refusal_reply x
unfolding reply_of extra_of refusal_reply
refusal-shown m x f e = rw e

pub experimental-shown : (m : List ℕ) (code : ℕ) → reply_of m (Experimental (record { 0 = code })) None None true ≡ experimental_reply code
unfolding reply_of failed_in extra_of experimental_reply
experimental-shown m code = refl

pub success-shown : (m r : List ℕ) (d : Done) (x : Option Extra) → extra_of x ≡ success_items m r d → reply_of m (Base (record { 0 = 2001 })) None x true ≡ success_reply m r d
unfolding reply_of failed_in success_reply
success-shown m r d x e = rw e
