-- Laws of what is copied from the request: Session-Id by what was found, the Proxy-Infos by the list that a walk gives, and the AVPs behind the header.
-- Assumes nothing.
use mathlib.Core.Path.{◌≡◌, refl, sym, ap, ◌∙◌}
use mathlib.Core.Bool.{Bool, true, false, cond, ◌&&◌, and_comm}
use mathlib.Core.Option.{Option, none, some, map}
use mathlib.Core.List.{List, [], ◌∷◌, ◌++◌, append_assoc, append-nil}
use Prim.Native.Nat.{ℕ, ◌+◌, ◌-◌, ◌≤◌}
use native.Mathlib.Omega.{arith}
use lib.ListN.{length, take, drop, length-append, length-take, length-drop}
use lib.Seq.{take-length}
use lib.Dec.{eqb}
use Rattle.paper.specs.Avp.{avp_of}
use Rattle.paper.specs.Reader.{Placed, Avps, whole, broken, more, placed, avps}
use Rattle.paper.specs.Find.{has_key, first_of}
use Rattle.dictionary.specs.declared.Key.{Key}
use Rattle.paper.specs.Profile as Profile
use Rattle.paper.specs.Profile.{session_id, proxy_info}
use Rattle.paper.specs.Request.{avps_of, find}
use Rattle.paper.specs.Answer.{item, echoed, each_of}
use Rattle.std.specs.Prelude.{Some, None}
use Rattle.paper.proofs.AvpsLaws.{Each, Stands, Breaks, stands_avp, avps_stand}
use Rattle.avp.specs.Walk.{items}
use Rattle.avp.specs.Step.{avp_at, step_at, key_at}
use Rattle.avp.specs.Found.{found_at, Inside, data_of}
use Rattle.avp.specs.declared.cursor.Avp.{Avp}
use Rattle.avp.specs.declared.cursor.Cursor.{Cursor}
use Rattle.avp.specs.declared.cursor.Step.TheVariants.{Item, End, Bad}
use Rattle.avp.specs.Written.{Room, Appended}
use Rattle.avp.specs.declared.write.Writer.{Writer}
use Rattle.avp.proofs.WriteLaws.{appended_then, appended-same, appended_nothing, room_behind}
use Rattle.avp.proofs.StepLaws.{avps-end, avps_bad, avps-item, item-avp, inside-at, data_at}
use Rattle.avp.proofs.FindLaws.{found-lies, found_nothing}
use Rattle.avp.proofs.MovedLaws.{move_by, moved, avps_moved, first_of_based}
use Rattle.answer.specs.Parts.{copied, session_echo, proxy_echo}

-- ---- Session-Id

module _ (s : List ℕ) where
  pub echo-found : {a : Avp} {x : List ℕ} → Some a ≡ found_at s (first_of 0 263 (avps 0 s)) → x ≡ data_of s a → item session_id x ≡ echoed session_id (find session_id (avps 0 s))
  unfolding echoed placed avp_of
  echo-found {a} e d =
      let l = found-lies s 0 263 e in
      rw (l.place, d) (ap (item session_id) (ap (data_of s) l.read ∙ data_at s a.at))

  pub echo-nothing : None ≡ found_at s (first_of 0 263 (avps 0 s)) → [] ≡ echoed session_id (find session_id (avps 0 s))
  unfolding echoed
  echo-nothing e = rw (found_nothing s (first_of 0 263 (avps 0 s)) e)

-- ---- Proxy-Info

-- what is copied so far, and what is left of all
pub record Copied (w : Writer) (all rest : List ℕ) (w' : Writer) : Type 0 where
  pub done : List ℕ
  pub split : all ≡ done ++ rest
  pub wrote : Appended w done w'

module _ {w w' : Writer} {all rest : List ℕ} where
  pub copied_more : {xs rest' : List ℕ} {w'' : Writer} → rest ≡ xs ++ rest' → Copied w all rest w' → Appended w' xs w'' → Copied w all rest' w''
  copied_more {xs} {rest'} e c p =
      record { done = c.done ++ xs; split = c.split ∙ ap (λ (r : List ℕ). c.done ++ r) e ∙ sym (append_assoc c.done xs rest'); wrote = appended_then c.wrote p }

  -- the end
  pub copied_all : rest ≡ [] → Copied w all rest w' → Appended w all w'
  copied_all e c = appended-same (sym (c.split ∙ rw (e, append-nil))) c.wrote

  -- there is room for what is left
  pub copied-room : Room w (length all) → Copied w all rest w' → Room w' (length rest)
  copied-room r c =
      let n = ap length c.split ∙ length-append c.done rest in
      room_behind (length rest) c.wrote (omega arith)

pub copied_none : (w : Writer) {all rest : List ℕ} → Room w (length all) → all ≡ rest → Copied w all rest w
copied_none w r e = record { done = []; split = e; wrote = appended_nothing w (omega arith) }

-- the Proxy-Infos from a place on
abbrev pub from : List ℕ → ℕ → List ℕ
from s at = each_of proxy_info (avps (0 + at) (drop at s))

pub from_start : (s : List ℕ) {at : ℕ} → at ≡ 0 → each_of proxy_info (avps 0 s) ≡ from s at
from_start s e = rw e

module _ (s : List ℕ) (at : ℕ) where
  pub from_end : End ≡ step_at s at → from s at ≡ []
  unfolding each_of
  from_end e = ap (each_of proxy_info) (avps-end 0 s at e)

  pub from_bad : {p : ℕ} → Bad p ≡ step_at s at → from s at ≡ []
  unfolding each_of
  from_bad e = ap (each_of proxy_info) (avps_bad 0 s at e)

  module _ {a : Avp} {next : Cursor} (e : Item a next ≡ step_at s at) where
    item-key : has_key 0 284 (avp_of (drop at s)) ≡ eqb a.vendor 0 && eqb a.code 284
    unfolding has_key avp_of avp_at
    item-key = ap (λ (b : Avp). eqb b.vendor 0 && eqb b.code 284) (sym (item-avp s at e))

    item-body : (avp_of (drop at s)).body ≡ data_of s a
    unfolding avp_of
    item-body = sym (ap (data_of s) (item-avp s at e) ∙ data_at s at)

    -- an AVP and all behind it
    pub from_item : from s at ≡ copied s a ++ from s next.at
    unfolding each_of placed copied
    from_item = ap (each_of proxy_info) (avps-item 0 s at e) ∙ rw (item-key, item-body) (go (eqb a.vendor 0 && eqb a.code 284))
      where
        go : (b : Bool) → cond b (item proxy_info (data_of s a) ++ from s next.at) (from s next.at) ≡ cond b (item proxy_info (data_of s a)) [] ++ from s next.at
        go true = refl
        go false = refl

    -- there is room for what is copied of an AVP
    pub room_for_item : {all : List ℕ} {w w' : Writer} → Room w (length all) → Copied w all (from s at) w' → Room w' (length (copied s a))
    room_for_item h c =
        let r = copied-room h c in
        let n = ap length from_item ∙ length-append (copied s a) (from s next.at) in
        omega arith

-- the Proxy-Infos in the list that a walk gives
abbrev pub copies : List ℕ → List Avp → List ℕ
copies s [] = []
copies s (a ∷ rest) = copied s a ++ copies s rest

-- each AVP of the list lies inside
abbrev pub AllInside : List ℕ → List Avp → Type 0
AllInside s [] = Unit {0}
AllInside s (a ∷ rest) = Inside s a × AllInside s rest

module _ (s : List ℕ) where
  abbrev Standing : Avps → Type 0
  Standing l = Each (Stands 0 s) (Breaks 0 s) l

  items_inside : (l : Avps) → Standing l → AllInside s (items s l)
  unfolding items
  items_inside whole t = tt
  items_inside (broken p) t = tt
  items_inside (more p rest) t = let z : p.at - 0 ≡ p.at = omega arith in (inside-at s p.at (rw z at t.0.right), items_inside rest t.1)

  copied-each : (p : Placed) → Stands 0 s p → copied s (avp_at s p.at) ≡ cond (has_key 0 284 p.avp) (item proxy_info p.avp.body) []
  unfolding copied has_key avp_at avp_of
  copied-each p t = let z : p.at - 0 ≡ p.at = omega arith in rw (stands_avp 0 s p t, z) (ap (λ (x : List ℕ). cond (has_key 0 284 (avp_of (drop p.at s))) (item proxy_info x) []) (data_at s p.at))

  items_copies : (l : Avps) → Standing l → copies s (items s l) ≡ each_of proxy_info l
  unfolding items each_of
  items_copies whole t = refl
  items_copies (broken p) t = refl
  items_copies (more p rest) t = rw (copied-each p t.0, items_copies rest t.1) (go (has_key 0 284 p.avp))
    where
      go : (b : Bool) → cond b (item proxy_info p.avp.body) [] ++ each_of proxy_info rest ≡ cond b (item proxy_info p.avp.body ++ each_of proxy_info rest) (each_of proxy_info rest)
      go true = refl
      go false = refl

  module _ {l : List Avp} (e : l ≡ items s (avps 0 s)) where
    pub all_copies : each_of proxy_info (avps 0 s) ≡ copies s l
    all_copies = sym (ap (copies s) e ∙ items_copies (avps 0 s) (avps_stand 0 s))

    pub all_inside : AllInside s l
    all_inside = rw e (items_inside (avps 0 s) (avps_stand 0 s))

  module _ {a : Avp} {l rest : List Avp} (e : l ≡ a ∷ rest) where
    pub first_copied : copies s l ≡ copied s a ++ copies s rest
    first_copied = ap (copies s) e

    pub inside : AllInside s l → Inside s a × AllInside s rest
    inside i = rw e at i

-- ---- the AVPs behind the header

pub behind-header : (m : List ℕ) → take (length m - 20) (drop 20 m) ≡ drop 20 m
behind-header m = ap (λ (n : ℕ). take n (drop 20 m)) (sym (length-drop 20 m)) ∙ take-length (drop 20 m)

echoed_moved : (base : ℕ) (k : Profile.Key) (o : Option Placed) → echoed k (map (move_by base) o) ≡ echoed k o
unfolding echoed
echoed_moved base k none = refl
echoed_moved base k (some p) = refl

each_moved : (base : ℕ) (k : Profile.Key) (l : Avps) → each_of k (moved base l) ≡ each_of k l
unfolding each_of moved
each_moved base k whole = refl
each_moved base k (broken p) = refl
each_moved base k (more p rest) = rw (each_moved base k rest)

-- what is echoed does not depend on where the AVPs stand
session_of_message : (m : List ℕ) → echoed session_id (find session_id (avps 0 (take (length m - 20) (drop 20 m)))) ≡ echoed session_id (find session_id (avps_of m))
unfolding avps_of
session_of_message m = rw (behind-header m) (sym (ap (echoed session_id) (first_of_based 20 0 263 (drop 20 m)) ∙ echoed_moved 20 session_id (first_of 0 263 (avps 0 (drop 20 m)))))

proxies_of_message : (m : List ℕ) → each_of proxy_info (avps 0 (take (length m - 20) (drop 20 m))) ≡ each_of proxy_info (avps_of m)
unfolding avps_of
proxies_of_message m = rw (behind-header m) (sym (ap (each_of proxy_info) (avps_moved 20 0 (drop 20 m)) ∙ each_moved 20 proxy_info (avps 0 (drop 20 m))))

pub length-behind-header : (m : List ℕ) → length (take (length m - 20) (drop 20 m)) ≡ length m - 20
length-behind-header m = rw (behind-header m) (length-drop 20 m)

-- ---- one AVP, if it is a Proxy-Info

-- the test of its key
pub proxy_tested : (a : Avp) {k : Key} {b : Bool} → k ≡ key_at a → b ≡ (eqb k.code 284 && eqb k.vendor 0) → eqb a.vendor 0 && eqb a.code 284 ≡ b
proxy_tested a e f = and_comm (eqb a.vendor 0) (eqb a.code 284) ∙ ap (λ (x : Key). eqb x.code 284 && eqb x.vendor 0) (sym e) ∙ sym f

pub copied_proxy : (s : List ℕ) (a : Avp) {x : List ℕ} → eqb a.vendor 0 && eqb a.code 284 ≡ true → x ≡ data_of s a → item proxy_info x ≡ copied s a
unfolding copied
copied_proxy s a e d = rw (e, d)

pub copied-other : (s : List ℕ) (a : Avp) → eqb a.vendor 0 && eqb a.code 284 ≡ false → [] ≡ copied s a
unfolding copied
copied-other s a e = rw e

-- ---- where the answer echoes, and where not

module _ (m : List ℕ) (echo : Bool) where
  pub no_session : echo ≡ false → [] ≡ session_echo m echo
  no_session e = rw e

  pub with_session : echo ≡ true → echoed session_id (find session_id (avps 0 (take (length m - 20) (drop 20 m)))) ≡ session_echo m echo
  with_session e = rw e (session_of_message m)

  pub no_proxies : echo ≡ false → [] ≡ proxy_echo m echo
  no_proxies e = rw e

  pub with_proxies : echo ≡ true → each_of proxy_info (avps 0 (take (length m - 20) (drop 20 m))) ≡ proxy_echo m echo
  with_proxies e = rw e (proxies_of_message m)

-- the data of an AVP is no longer than the stretch
pub data_most : (s : List ℕ) (a : Avp) → length (data_of s a) ≤ length s
data_most s a = simp (length-take, length-drop) (omega arith)
