-- Promise: a number, a Result-Code or an Experimental-Result-Code is given exactly if its case is the first that holds, and 2001 if none does.
-- Assumes nothing.
use mathlib.Core.Path.{◌≡◌, refl, sym, ◌∙◌, subst}
use mathlib.Core.Logic.{◌↔◌}
use mathlib.Core.Bool.{Bool, true, false, cond, ◌&&◌, not}
use mathlib.Core.Option.{Option, none, some}
use mathlib.Core.List.{List, [], ◌∷◌}
use Prim.Native.Nat.{ℕ}
use lib.ListN.{get_or}
use lib.Dec.{ltb, eqb}
use Rattle.std.proofs.lemmas.Bool.{and_parts}
use Rattle.wire.specs.Number.{num_at}
use Rattle.paper.specs.Avp.{bit}
use Rattle.paper.specs.Reader.{or_else}
use Rattle.paper.specs.Table.{lookup, record_of, name_of}
use Rattle.paper.specs.Fields.{filled}
use Rattle.paper.specs.Profile.{key}
use Rattle.paper.specs.Request.{Refusal, value_of, number_of, is_name}
use Rattle.paper.specs.Procedures.{same_name, imsi_field, unsubscribed, plmn_refused, stranger, code_if}
use Rattle.paper.specs.Procedures as Procedures
use Rattle.paper.specs.Clerks.{is_none, record_at_place, record_with}
use Rattle.paper.specs.Outcome.{Lent, Outcome, silent, answered, refusal_reply, experimental_reply, success_reply, by_verdict, by_record, by_refusal, outcome}
use Rattle.paper.specs.Refusals.{Said, number, result, experimental, said_by, said, imsi_stored, name_said, rat_passes, lists_plmn, is_named, Case, refusals, First, no_case_holds, first, later}
use Rattle.paper.proofs.PromiseTests.{refused_by, request-said, rat_refused_lem}
use Rattle.paper.proofs.SaidLaws.{no_imsi-said, plmn-listed}

-- ---- over any list of cases

first_said : Lent → List Case → Said
first_said l [] = result 2001
first_said l (c ∷ cs) = cond (c.holds l) c.says (first_said l cs)

first_said_lem : {l : Lent} {cs : List Case} {x : Said} → First l cs x → first_said l cs ≡ x
unfolding first_said
first_said_lem no_case_holds = refl
first_said_lem (first h) = rw h
first_said_lem (later h r) = rw h (first_said_lem r)

said-first : (l : Lent) (cs : List Case) → First l cs (first_said l cs)
unfolding first_said
said-first l [] = no_case_holds
said-first l (c ∷ cs) = go (c.holds l) refl (said-first l cs)
  where
    go : (b : Bool) → c.holds l ≡ b → First l cs (first_said l cs) → First l (c ∷ cs) (cond (c.holds l) c.says (first_said l cs))
    go true h others = rw h (first h)
    go false h others = rw h (later h others)

-- ---- the Experimental results

judged_by : Option ℕ → Said → Said
judged_by none d = d
judged_by (some code) d = experimental code

judged-or_else : (a b : Option ℕ) (d : Said) → judged_by (or_else a b) d ≡ judged_by a (judged_by b d)
unfolding judged_by
judged-or_else none b d = refl
judged-or_else (some x) b d = refl

judged_if : (b : Bool) (code : ℕ) (d : Said) → judged_by (code_if b code) d ≡ cond b (experimental code) d
unfolding judged_by
judged_if true code d = refl
judged_if false code d = refl

abbrev of_record : List ℕ → List ℕ → Said
of_record m r =
    cond (eqb (num_at 3 m 5) 316 && cond (bit 1 (number_of (key 10415 1405) m)) (not (bit 0 (get_or r 20 0))) (not (bit 0 (get_or r 20 0)) && not (bit 1 (get_or r 20 0)))) (experimental 5420)
    (cond (eqb (num_at 3 m 5) 316 && not (rat_passes (number_of (key 10415 1032) m) (num_at 4 r 24))) (experimental 5421)
    (cond (eqb (num_at 3 m 5) 316 && (ltb 0 (get_or r 28 0) && not (lists_plmn r (value_of (key 10415 1407) m)))) (experimental 5004)
    (cond (eqb (num_at 3 m 5) 323 && (not (is_named 64 (value_of (key 0 264) m) r) && not (is_named 129 (value_of (key 0 264) m) r))) (experimental 5423) (result 2001))))

record_judged : (m r : List ℕ) → judged_by (Procedures.experimental m r) (result 2001) ≡ of_record m r
unfolding Procedures.experimental unsubscribed plmn_refused stranger same_name name_of
record_judged m r = simp (judged-or_else, judged_if, rat_refused_lem, plmn-listed)

-- ---- the outcome

silent-said : (b : Bool) (n : ℕ) (l : Lent) (x : Outcome) → said (cond b (silent n l) x) ≡ cond b (number n) (said x)
unfolding said silent said_by
silent-said true n l x = refl
silent-said false n l x = refl

verdict-said : (l : Lent) (i : ℕ) (r : List ℕ) (o : Option ℕ) → said (by_verdict l i r o) ≡ judged_by o (result 2001)
unfolding said said_by by_verdict answered experimental_reply success_reply judged_by
verdict-said l i r none = refl
verdict-said l i r (some code) = refl

record_said : (l : Lent) (o : Option ℕ) → said (by_record l o) ≡ cond (is_none o) (experimental 5001) (of_record l.request (record_at_place o l.table))
unfolding said said_by by_record answered experimental_reply record_at_place
record_said l none = refl
record_said l (some i) = verdict-said l i (record_of l.table i) _ ∙ record_judged l.request (record_of l.table i)

refusal-said : (l : Lent) (o : Option Refusal) → said (by_refusal l o) ≡ refused_by o (said (by_record l (lookup (imsi_field l.request) l.table)))
unfolding said said_by by_refusal answered refusal_reply refused_by
refusal-said l none = refl
refusal-said l (some x) = refl

outcome-said : (l : Lent) → said (outcome l) ≡ first_said l refusals
unfolding outcome first_said refusals record_with is_name name_said imsi_field filled imsi_stored
outcome-said l = simp (silent-said, refusal-said, request-said, record_said, no_imsi-said)

-- "Refusals without an answer", "Refusals with an answer" and the Experimental results, each in its stated case only
pub first_that_applies : (l : Lent) (x : Said) → (said (outcome l) ≡ x) ↔ First l refusals x
first_that_applies l x =
    ((λ e. subst (First l refusals) (sym (outcome-said l) ∙ e) (said-first l refusals)), (λ f. outcome-said l ∙ first_said_lem f))

-- ---- what holds of all that can be said

unfoldable pub all_say : (Said → Bool) → List Case → Bool
all_say P [] = P (result 2001)
all_say P (c ∷ cs) = P c.says && all_say P cs

first_says : (P : Said → Bool) {l : Lent} {cs : List Case} {x : Said} → First l cs x → all_say P cs ≡ true → P x ≡ true
unfolding all_say
first_says P no_case_holds e = e
first_says P (first {c} {cs} h) e = (and_parts (P c.says) (all_say P cs) e).0
first_says P (later {c} {cs} h r) e = first_says P r (and_parts (P c.says) (all_say P cs) e).1

pub outcome-says : (P : Said → Bool) → all_say P refusals ≡ true → (l : Lent) → P (said (outcome l)) ≡ true
outcome-says P e l = first_says P ((first_that_applies l (said (outcome l))).0 refl) e
