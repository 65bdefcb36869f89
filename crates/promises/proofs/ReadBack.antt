-- Promise 7, of calls: by paper's theorem over `outcome`, and said of the public message reader.
-- Assumes nothing.
use mathlib.Core.Path.{◌≡◌, ap, ◌∙◌}
use mathlib.Core.List.{List}
use Prim.Native.Nat.{ℕ}
use lib.ListN.{drop}
use Rattle.wire.specs.Number.{Bytes}
use Rattle.dictionary.specs.Rows.{kind_of}
use Rattle.paper.specs.declared.Visit.TheVariants.{Clean}
use Rattle.paper.specs.ReadBack.{ReadBack}
use Rattle.paper.specs.Reader.{most_groups, told}
use Rattle.paper.specs.Request.{view_of}
use Rattle.paper.proofs.ReadBack as paper-read
use Rattle.reader.specs.declared.message.Message.{Message}
use Rattle.reader.specs.Header.{header_of}
use Rattle.reader.specs.Message.{message_of, visit_of}
use Rattle.reader.proofs.SeenLaws.{alike-told, view-alike}
use Rattle.promises.specs.Promises.{AnswersReadBack, AnswersVisited, answer_of}
use Rattle.promises.proofs.CallLaws.{of_call}

pub answers_read_back : AnswersReadBack
answers_read_back c = of_call (λ l o. Bytes l.request → o.number ≡ 0 → ReadBack l o) paper-read.answers_read_back c c.bytes

-- what is told does not depend on what a command sees
told_clean : (a : List ℕ) → told (view_of a) ≡ Clean → (message_of a).visit ≡ Clean
unfolding message_of visit_of view_of
told_clean a e = alike-told (view-alike kind_of _ _ most_groups 20 (drop 20 a)) ∙ e

pub answers_visited : AnswersVisited
unfolding message_of header_of
answers_visited c r n e =
    let b = answers_read_back c n in
    let h = b.header in
    let q : r.result ≡ message_of (answer_of c) = r.met ∙ ap message_of e in
    record {
      visit = ap (λ (m : Message). m.visit) q ∙ told_clean (answer_of c) b.no_fault;
      version = ap (λ (m : Message). m.header.version) q ∙ h.version;
      own_length = ap (λ (m : Message). m.header.length) q ∙ h.own_length ∙ b.size;
      flags = ap (λ (m : Message). m.header.flags) q ∙ h.flags;
      command = ap (λ (m : Message). m.header.command) q ∙ h.command;
      application = ap (λ (m : Message). m.header.application) q ∙ h.application;
      hop_by_hop = ap (λ (m : Message). m.header.hop_by_hop) q ∙ h.hop_by_hop;
      end_to_end = ap (λ (m : Message). m.header.end_to_end) q ∙ h.end_to_end;
    }
