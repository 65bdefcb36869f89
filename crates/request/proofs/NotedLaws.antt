-- What is noted of a request: its command, and that where no noted key was met twice no command's was.
-- Assumes nothing.
use mathlib.Core.Path.{◌≡◌, refl, sym, ap, ◌∙◌}
use mathlib.Core.Bool.{Bool, true, false, cond, ◌&&◌, ◌||◌, false≢true}
use mathlib.Core.Option.{Option, none, some}
use mathlib.Core.List.{List, [], ◌∷◌, map}
use Prim.Native.Nat.{ℕ}
use lib.ListN.{drop}
use lib.Dec.{eqb}
use borrow.Author.Tests.{eqb-true}
use Rattle.std.specs.Prelude as Std
use Rattle.std.specs.Prelude.{Some, None}
use Rattle.dictionary.specs.Rows.{key_of}
use Rattle.dictionary.specs.declared.Key as Dictionary
use Rattle.paper.specs.Reader.{Placed, Avps, whole, broken, more, avps}
use Rattle.paper.specs.Find.{member, first_second}
use Rattle.paper.specs.Profile as Paper
use Rattle.paper.specs.Profile.{Key, command_of, commands, command_in}
use Rattle.paper.specs.Request.{avps_of, command_code, is_there, key_number, used, used_in}
use Rattle.reader.specs.declared.header.Header.{Header}
use Rattle.reader.specs.Header.{header_of}
use Rattle.avp.specs.Found.{found_at, number, Noted}
use Rattle.avp.proofs.FindLaws.{no_second-placed}
use Rattle.request.specs.declared.profile.Command.{Command}
use Rattle.request.specs.declared.profile.Command.TheVariants.{Ulr, Pur, Nor}
use Rattle.request.specs.declared.profile.TheConstants.{NOTED_KEYS}
use Rattle.request.specs.Held.{second_noted}
use Rattle.request.specs.Place.{sought_of}
use Rattle.request.specs.Profile.{row_of}

-- ---- its command

pub command-read : (m : List ℕ) {h : Header} → h ≡ header_of m → h.command ≡ command_code m
unfolding header_of
command-read m e = ap (λ (h : Header). h.command) e

pub own-command : (m : List ℕ) {h : Header} → h ≡ header_of m → {c : Option Paper.Command} → c ≡ command_of h.command → c ≡ command_of (command_code m)
own-command m e q = q ∙ ap command_of (command-read m e)

-- ---- its places, of the same bytes and keys

pub noted_same : {s r : List ℕ} {keys ks : List Dictionary.Key} {places : List (Std.Option ℕ)} → s ≡ r → keys ≡ ks → Noted r ks places → Noted s keys places
noted_same e q n = rw (e, q) n

-- ---- no key twice

-- the numbers of the noted keys
abbrev noted : List ℕ
noted = map number NOTED_KEYS

-- the walk, from the bytes behind the header to the message
pub once_top : (m : List ℕ) {s : List ℕ} → s ≡ drop 20 m → first_second noted [] (avps 0 s) ≡ none → second_noted m ≡ false
unfolding avps_of
once_top m {s} e n =
    ap is_there
    (ap (λ (x : List ℕ). first_second noted [] (avps 20 x)) (sym e)
    ∙ no_second-placed 20 s noted (sym (ap (found_at s) n)))

-- ---- fewer keys, no second either

within : List ℕ → List ℕ → Bool
within [] wide = true
within (k ∷ keys) wide = member k wide && within keys wide

member-within : (k : ℕ) (keys wide : List ℕ) → within keys wide ≡ true → member k keys ≡ true → member k wide ≡ true
unfolding member within
member-within k [] wide h m = absurd (false≢true m)
member-within k (x ∷ keys) wide h m = go (eqb k x) (member x wide) refl refl (member-within k keys wide) h m
  where
    go : (b a : Bool) → eqb k x ≡ b → member x wide ≡ a → (within keys wide ≡ true → member k keys ≡ true → member k wide ≡ true)
        → a && within keys wide ≡ true → b || member k keys ≡ true → member k wide ≡ true
    go true true q e f h m = rw (eqb-true k x q) e
    go false true q e f h m = f h m
    go true false q e f h m = absurd (false≢true h)
    go false false q e f h m = absurd (false≢true h)

-- every key of `met` is one of `seen`
abbrev Among : List ℕ → List ℕ → Type 0
Among met seen = (k : ℕ) → member k met ≡ true → member k seen ≡ true

among_more : (met seen : List ℕ) (x : ℕ) → Among met seen → Among met (x ∷ seen)
unfolding member
among_more met seen x f k h = go (eqb k x)
  where
    go : (b : Bool) → b || member k seen ≡ true
    go true = refl
    go false = f k h

among_both : (met seen : List ℕ) (x : ℕ) → Among met seen → Among (x ∷ met) (x ∷ seen)
unfolding member
among_both met seen x f k h = go (eqb k x) h
  where
    go : (b : Bool) → b || member k met ≡ true → b || member k seen ≡ true
    go true t = refl
    go false t = f k t

no_some : {A : Type 0} {p : A} → some p ≡ none → ⊥
no_some e = cc

second_fewer : (keys wide : List ℕ) → Among keys wide → (l : Avps) (met seen : List ℕ) → Among met seen → first_second wide seen l ≡ none → first_second keys met l ≡ none
unfolding first_second
second_fewer keys wide f whole met seen g e = refl
second_fewer keys wide f (broken p) met seen g e = refl
second_fewer keys wide f (more p rest) met seen g e =
    go (member key keys) (member key wide) (member key met) (member key seen) refl refl refl refl (second_fewer keys wide f rest) e
  where
    key : ℕ
    key = key_of p.avp.vendor p.avp.code

    go : (b w n t : Bool) → member key keys ≡ b → member key wide ≡ w → member key met ≡ n → member key seen ≡ t
        → ((x y : List ℕ) → Among x y → first_second wide y rest ≡ none → first_second keys x rest ≡ none)
        → cond w (cond t (some p) (first_second wide (key ∷ seen) rest)) (first_second wide seen rest) ≡ none
        → cond b (cond n (some p) (first_second keys (key ∷ met) rest)) (first_second keys met rest) ≡ none
    go b true n true kb kw kn kt again e = absurd (no_some e)
    go true true true false kb kw kn kt again e = absurd (false≢true (sym kt ∙ g key kn))
    go true true false false kb kw kn kt again e = again (key ∷ met) (key ∷ seen) (among_both met seen key g) e
    go true false n t kb kw kn kt again e = absurd (false≢true (sym kw ∙ f key kb))
    go false true n false kb kw kn kt again e = again met (key ∷ seen) (among_more met seen key g) e
    go false false n t kb kw kn kt again e = again met seen g e

-- the keys of a command are among the noted ones
used-within : (c : Std.Option Command) → within (map key_number (used_in (row_of c))) noted ≡ true
unfolding command_of commands command_in used_in key_of within member
used-within None = refl
used-within (Some Ulr) = refl
used-within (Some Pur) = refl
used-within (Some Nor) = refl

pub none-there : (o : Option Placed) → is_there o ≡ false → o ≡ none
none-there none e = refl
none-there (some p) e = absurd (false≢true (sym e))

pub no_second-used : (m : List ℕ) (c : Std.Option Command) → row_of c ≡ command_of (command_code m) → second_noted m ≡ false
    → None ≡ sought_of (first_second (map key_number (used m)) [] (avps_of m))
no_second-used m c own e =
    let keys = map key_number (used_in (row_of c)) in
    sym
    (ap sought_of
    (ap (λ x. first_second (map key_number (used_in x)) [] (avps_of m)) (sym own)
    ∙ second_fewer keys noted (λ k. member-within k keys noted (used-within c)) (avps_of m) [] [] (λ k h. h) (none-there (first_second noted [] (avps_of m)) e)))
