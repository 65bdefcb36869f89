-- Promises 1 to 3, of calls: by paper's theorems over `outcome`.
-- Assumes nothing.
use mathlib.Core.Path.{◌≡◌, refl, sym, ap, ◌∙◌, subst}
use mathlib.Core.Bool.{Bool, true, false, cond}
use mathlib.Core.Option.{none, some}
use mathlib.Core.List.{List}
use Prim.Native.Nat.{ℕ}
use native.Mathlib.Omega.{arith}
use lib.Dec.{ltb, eqb}
use lib.ListN.{length}
use borrow.Author.Tests.{ltb-false, eqb-true}
use Rattle.std.proofs.lemmas.Bool.{and_parts}
use Rattle.paper.specs.Avp.{avp_of}
use Rattle.paper.specs.Layout.{least_request, most_request}
use Rattle.paper.specs.Newer.{asking, Accepting, Accepted, WidenedRequest, Fits}
use Rattle.paper.specs.Outcome.{Lent, Outcome, outcome}
use Rattle.paper.specs.Request.{message_length, view_of, Refusal, length_test}
use Rattle.paper.specs.Widened.{if_mandatory, Clear}
use Rattle.paper.proofs.Newer as paper
use Rattle.paper.proofs.Newer.{accepted_again}
use Rattle.paper.proofs.NewerAccepted.{accepted_tested, accepted-least, accepted-passes}
use Rattle.paper.proofs.NewerCover.{stripped_widens, insert_widens, header_flips, flag_widens, padding_widens, word_widens}
use Rattle.paper.proofs.NewerRequest.{passes-clear}
use Rattle.paper.proofs.NewerUnused.{unused_put_in, unused_taken_out}
use Rattle.paper.proofs.TestLaws.{or-false-right}
use Rattle.promises.specs.Calls.{Call}
use Rattle.promises.specs.Promises.{NewerSame, NewerUnsupported, ChangesSame, AddedUnsupported, StrippedSame}
use Rattle.promises.specs.Width.{Change, header_bit, unknown_added, avp_bit, padding, spare_bit_flipped, unused_added, unused_left_out, Changes, no_change, and_then}

-- ---- two calls, the second with another request

accepted : (c : Call) → Accepting c.left.verdict → Accepted c.lent
accepted c h = subst (λ (o : Outcome). Accepting o.verdict) c.met h

-- what the second comes to, once `outcome` is known
second : (d : Call) {l : Lent} {o : Outcome} → d.lent ≡ l → outcome l ≡ o → d.left ≡ o
second d e q = d.met ∙ ap outcome e ∙ q

pub newer_same : NewerSame
newer_same c d n h w e = second d e (paper.newer_same c.lent n (accepted c h) w ∙ sym c.met)

pub newer_unsupported : NewerUnsupported
newer_unsupported c d n a h w e = second d e (paper.newer_unsupported c.lent n a (accepted c h) w)

-- ---- change by change

-- a test that refuses nothing
passed : (b : Bool) (x : Refusal) → cond b none (some x) ≡ none → b ≡ true
passed true x e = refl
passed false x e = let z : ◌≡◌ {A = ℕ} 0 1 = cc in absurd (omega arith)

module _ (l : Lent) (h : Accepted l) where
  clear : Clear (view_of l.request)
  clear = passes-clear l.request (accepted-passes l h)

  kept : (n : List ℕ) → WidenedRequest l.request n none → outcome (asking l n) ≡ outcome l
  kept n w = paper.newer_same l n h w

  fits : Fits l.request
  unfolding length_test
  fits =
      let m = l.request in
      let t = (accepted_tested l h).size in
      record {
        mended = eqb-true (message_length m) (length m) (and_parts (eqb (message_length m) (length m)) _ (passed _ _ (accepted-passes l h).size)).0;
        least = accepted-least l h;
        most = ltb-false most_request (length m) (or-false-right (ltb (length m) least_request) _ t);
      }

  change_kept : {n : List ℕ} → Change l.request n → outcome (asking l n) ≡ outcome l
  unfolding if_mandatory avp_of
  change_kept (header_bit k b) = kept _ (header_flips k b l.request fits clear)
  change_kept (unknown_added y t o u m i s) = kept _ (rw m at (insert_widens l.request y t (accepted-least l h) s clear o u i))
  change_kept (avp_bit k x t b o u r s) = kept _ (flag_widens l.request t (accepted-least l h) s clear k b o u r)
  change_kept (padding x z t o p a r s) = kept _ (padding_widens l.request t (accepted-least l h) s clear o p a r)
  change_kept (spare_bit_flipped k x t b o y f e r s) = kept _ (word_widens l.request t (accepted-least l h) s clear k b o y f e r)
  change_kept (unused_added y n o u s f i q) = unused_put_in l n y h s f o u i q
  change_kept (unused_left_out y n o u s f i) = unused_taken_out l n y h s f o u i

changes_kept : (l : Lent) → Accepted l → {n : List ℕ} → Changes l.request n → outcome (asking l n) ≡ outcome l
unfolding asking
changes_kept l h no_change = refl
changes_kept l h (and_then {n = n} cs x) =
    let e = changes_kept l h cs in
    change_kept (asking l n) (accepted_again l n h e) x ∙ e

pub changes_same : ChangesSame
changes_same c d n h cs e = second d e (changes_kept c.lent (accepted c h) cs ∙ sym c.met)

pub added_unsupported : AddedUnsupported
unfolding if_mandatory avp_of
added_unsupported c d y t h o u m i s e =
    let l = c.lent in
    let a = accepted c h in
    let w = rw m at (insert_widens l.request y t (accepted-least l a) s (clear l a) o u i) in
    second d e (paper.newer_unsupported l _ (avp_of y) a w)

-- ---- without the unknown AVPs

pub stripped-same : StrippedSame
unfolding asking
stripped-same c d f v e h =
    let m = d.lent.request in
    let w = rw v.unsupported at (stripped_widens m d.bytes f v.fault) in
    newer_same c d m h (subst (λ (l : Lent). WidenedRequest l.request m none) (sym e) w) (ap (λ (l : Lent). asking l m) (sym e))
