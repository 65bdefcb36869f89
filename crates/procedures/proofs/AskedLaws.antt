-- The request behind the values that the code was handed: its ruling, and what it comes to.
-- Assumes nothing.
use mathlib.Core.Path.{◌≡◌, refl, sym, ap, ◌∙◌, subst}
use mathlib.Core.Bool.{Bool, true, false, cond}
use mathlib.Core.Option.{Option, none, some}
use Rattle.std.specs.Prelude.{is_some, unwrap_or}
use Rattle.std.specs.Prelude as Given
use mathlib.Core.List.{List, []}
use Prim.Native.Nat.{ℕ}
use native.Mathlib.Omega.{arith}
use lib.Dec.{eqb}
use borrow.Author.Tests.{eq-eqb, ne_eqb}
use Rattle.wire.specs.Put.{put}
use Rattle.paper.specs.Avp.{bit}
use Rattle.paper.specs.Find.{body_found}
use Rattle.paper.specs.Layout.{most_entries}
use Rattle.paper.specs.Profile.{ulr, pur, nor, rat_type, visited_plmn_id, ulr_flags, pur_flags, nor_flags}
use Rattle.paper.specs.Reader.{Placed}
use Rattle.paper.specs.Request.{command_code, avps_of, find, value_of, number_of, is_there, imei_of}
use Rattle.paper.specs.Table.{record_of, mme, sgsn}
use Rattle.paper.specs.Asked.{flags_key, flags_in, asked_of, imei_in}
use Rattle.paper.specs.declared.Asked.{Asked}
use Rattle.paper.proofs.GivenLaws.{flags-given}
use Rattle.paper.proofs.ProcedureLaws.{imei-entries}
use Rattle.paper.proofs.ViewLaws.{or_else-right}
use Rattle.paper.specs.Procedures.{Done, sender, code_if, stranger, experimental, with_imei, other_type, updated, located, update_location, purges, purged, purge_ue, notified, notify, carried_out, cancel_bytes}
use Rattle.procedures.specs.Values.{refused_update, stored_if, Did, Carried, Purged}

-- ---- the numbers of the request

module _ (m : List ℕ) (a : Asked) (e : a ≡ asked_of m) where
  command-asked : a.command ≡ command_code m
  unfolding asked_of
  command-asked = ap (λ (x : Asked). x.command) e

  rat_asked : a.rat ≡ number_of rat_type m
  unfolding asked_of
  rat_asked = ap (λ (x : Asked). x.rat) e

  flags-asked : a.flags ≡ flags_in m
  unfolding asked_of
  flags-asked = ap (λ (x : Asked). x.flags) e

  flags-number : unwrap_or a.flags 0 ≡ number_of (flags_key (command_code m)) m
  flags-number = ap (λ (o : Given.Option ℕ). unwrap_or o 0) flags-asked ∙ flags-given m

  ulr-flags : a.command ≡ ulr → unwrap_or a.flags 0 ≡ number_of ulr_flags m
  unfolding flags_key
  ulr-flags h = flags-number ∙ ap (λ (c : ℕ). number_of (flags_key c) m) (sym command-asked ∙ h)

  pur-flags : a.command ≡ pur → unwrap_or a.flags 0 ≡ number_of pur_flags m
  unfolding flags_key
  pur-flags h = flags-number ∙ ap (λ (c : ℕ). number_of (flags_key c) m) (sym command-asked ∙ h)

  some-if : (b : Bool) (n : ℕ) → is_some (cond b (Given.Some n) Given.None) ≡ b
  some-if true n = refl
  some-if false n = refl

  pur-has-flags : a.command ≡ pur → is_some a.flags ≡ is_there (find pur_flags (avps_of m))
  unfolding flags_in flags_key
  pur-has-flags h =
      ap is_some flags-asked ∙ some-if _ _ ∙ ap (λ (c : ℕ). is_there (find (flags_key c) (avps_of m))) (sym command-asked ∙ h)

  nor-flags : (a.command ≡ ulr → ⊥) → (a.command ≡ pur → ⊥) → unwrap_or a.flags 0 ≡ number_of nor_flags m
  unfolding flags_key
  nor-flags n₁ n₂ =
      let k = command-asked in
      let u : eqb (command_code m) ulr ≡ false = ne_eqb (command_code m) ulr (λ q. n₁ (k ∙ q)) in
      let p : eqb (command_code m) pur ≡ false = ne_eqb (command_code m) pur (λ q. n₂ (k ∙ q)) in
      flags-number ∙ rw (u, p)

  is-command : (code : ℕ) → a.command ≡ code → eqb (command_code m) code ≡ true
  is-command code h = eq-eqb (command_code m) code (sym command-asked ∙ h)

  not-command : (code : ℕ) → (a.command ≡ code → ⊥) → eqb (command_code m) code ≡ false
  not-command code h = ne_eqb (command_code m) code (λ q. h (command-asked ∙ q))

  other-command : (code other : ℕ) → a.command ≡ code → (code ≡ other → ⊥) → eqb (command_code m) other ≡ false
  other-command code other h ne = not-command other (λ q. ne (sym h ∙ q))

  -- ---- the ruling

  pub ruled_update : {x : Option ℕ} {w : ℕ} (plmn r : List ℕ) → w ≡ unwrap_or a.flags 0 → a.command ≡ ulr → plmn ≡ value_of visited_plmn_id m → x ≡ refused_update w a.rat plmn r → x ≡ experimental m r
  unfolding refused_update experimental
  ruled_update plmn r f h p q =
      q
      ∙ rw (f ∙ ulr-flags h, rat_asked, p, is-command ulr h, other-command ulr nor h (λ z. omega arith), or_else-right)

  pub ruled-stranger : {x : Option ℕ} (host r : List ℕ) → a.command ≡ nor → host ≡ sender m → x ≡ code_if (stranger host r) 5423 → x ≡ experimental m r
  unfolding experimental
  ruled-stranger host r h s q = q ∙ rw (other-command nor ulr h (λ z. omega arith), is-command nor h, s)

  pub ruled-known : (host r : List ℕ) → a.command ≡ nor → host ≡ sender m → stranger host r ≡ false → none ≡ experimental m r
  ruled-known host r h s q = ruled-stranger host r h s (rw q refl)

  pub ruled-other : (r : List ℕ) → (a.command ≡ ulr → ⊥) → (a.command ≡ nor → ⊥) → none ≡ experimental m r
  unfolding experimental
  ruled-other r n₁ n₂ = rw (not-command ulr n₁, not-command nor n₂)

  -- ---- what the request comes to

  imei-table : (p : Option Placed) (i : ℕ) (d : Done) → (with_imei p i d).table ≡ stored_if (cond (is_there p) (Given.Some (body_found p)) Given.None) i d.table
  unfolding with_imei
  imei-table none i d = refl
  imei-table (some x) i d = refl

  imei-purges : (p : Option Placed) (i : ℕ) (d : Done) → (with_imei p i d).purges ≡ d.purges
  unfolding with_imei
  imei-purges none i d = refl
  imei-purges (some x) i d = refl

  located-purges : (s6a : Bool) (type : Option ℕ) (sent r : List ℕ) (i : ℕ) (t : List ℕ) → (located s6a type sent r i t).purges ≡ 0
  unfolding updated
  located-purges true type sent r i t = refl
  located-purges false type sent r i t = refl

  -- the nodes changed as `d` says, then the IMEI stored
  imei_carried : (imei : Given.Option (List ℕ)) (i : ℕ) (d : Done) (cancel cancel' t₁ t₂ : List ℕ) → imei ≡ imei_in m → d.purges ≡ 0 → Did d cancel t₁ cancel' → t₂ ≡ stored_if imei i t₁
      → Carried (with_imei (imei_of m) i d) cancel 0 t₂ cancel'
  unfolding imei_in
  imei_carried imei i d cancel cancel' t₁ t₂ x z did s =
      record {
        did =
            record {
              table = s ∙ rw (x, did.table) (sym (imei-table (imei_of m) i d));
              list = did.list ∙ ap (λ es. put 0 (cancel_bytes most_entries es) cancel) (sym (imei-entries (imei_of m) i d));
            };
        flags = sym (imei-purges (imei_of m) i d ∙ z);
      }

  module _ (host : List ℕ) (imei : Given.Option (List ℕ)) (s : host ≡ sender m) (x : imei ≡ imei_in m) (i : ℕ) (t cancel cancel' t₁ t₂ : List ℕ) where
    pub carried_update : {w : ℕ} → w ≡ unwrap_or a.flags 0 → a.command ≡ ulr → Did (located (bit 1 w) (other_type (bit 1 w) (bit 0 w) (bit 5 w)) host (record_of t i) i t) cancel t₁ cancel'
        → t₂ ≡ stored_if imei i t₁ → Carried (carried_out m i t) cancel 0 t₂ cancel'
    unfolding carried_out update_location
    carried_update {w} f h did q =
        let type = other_type (bit 1 w) (bit 0 w) (bit 5 w) in
        subst (λ (d : Done). Carried d cancel 0 t₂ cancel') comes
        (imei_carried imei i (located (bit 1 w) type host (record_of t i) i t) cancel cancel' t₁ t₂ x (located-purges (bit 1 w) type host (record_of t i) i t) did q)
      where
        comes : with_imei (imei_of m) i (located (bit 1 w) (other_type (bit 1 w) (bit 0 w) (bit 5 w)) host (record_of t i) i t) ≡ carried_out m i t
        comes = rw (is-command ulr h, f ∙ ulr-flags h, s)

    pub carried_notify : {w : ℕ} → w ≡ unwrap_or a.flags 0 → (a.command ≡ ulr → ⊥) → (a.command ≡ pur → ⊥) → Did (notified (code_if (bit 0 w) 1) host (record_of t i) i t) cancel t₁ cancel'
        → t₂ ≡ stored_if imei i t₁ → Carried (carried_out m i t) cancel 0 t₂ cancel'
    unfolding carried_out notify
    carried_notify {w} f n₁ n₂ did q =
        subst (λ (d : Done). Carried d cancel 0 t₂ cancel') comes
        (imei_carried imei i (notified (code_if (bit 0 w) 1) host (record_of t i) i t) cancel cancel' t₁ t₂ x refl did q)
      where
        comes : with_imei (imei_of m) i (notified (code_if (bit 0 w) 1) host (record_of t i) i t) ≡ carried_out m i t
        comes = rw (not-command ulr n₁, not-command pur n₂, f ∙ nor-flags n₁ n₂, s)

    pub carried_purge : (r : ℕ) → a.command ≡ pur → Purged (purges mme host (is_some a.flags) (unwrap_or a.flags 0) (record_of t i)) (purges sgsn host (is_some a.flags) (unwrap_or a.flags 0) (record_of t i)) i t r t₁
        → cancel' ≡ put 0 (cancel_bytes most_entries []) cancel → Carried (carried_out m i t) cancel r t₁ cancel'
    unfolding carried_out purge_ue
    carried_purge r h p q =
        subst (λ (d : Done). Carried d cancel r t₁ cancel') comes (record { did = record { table = p.table; list = q }; flags = p.flags })
      where
        comes : purged (purges mme host (is_some a.flags) (unwrap_or a.flags 0) (record_of t i)) (purges sgsn host (is_some a.flags) (unwrap_or a.flags 0) (record_of t i)) i t ≡ carried_out m i t
        comes = rw (other-command pur ulr h (λ z. omega arith), is-command pur h, pur-flags h, pur-has-flags h, s)
