-- The calls of Calls.antt are the contracts: what a caller of each public function learns from its `ensures`, `Learnt` of that function, is `met` as it
-- stands. A contract that said anything else would be refused here. Assumes nothing.
use denote.Triple.Clauses.{AtExit}
use contract.Lifetimes.{Lfts}
use borrow.Fn.World.{ArgsD, ResD}
use Rattle.paper.specs.Outcome.{Lent}
use Rattle.dymosaw.specs.Serve.{lent}
use Rattle.dymosaw.specs.contracts.serve.serve as serve
use Rattle.dymosaw.proofs.serve.serve.Reads as serve-reads
use Rattle.dymosaw.specs.contracts.serve.dymosaw_request as request
use Rattle.dymosaw.proofs.serve.dymosaw_request.Reads as request-reads
use Rattle.dymosaw.specs.contracts.correct.correct as correct
use Rattle.dymosaw.proofs.correct.correct.Reads as correct-reads
use Rattle.dymosaw.specs.contracts.correct.dymosaw_correct as entry
use Rattle.dymosaw.proofs.correct.dymosaw_correct.Reads as entry-reads
use Rattle.dymosaw.specs.contracts.read.read_message as read
use Rattle.dymosaw.proofs.read.read_message.Reads as read-reads
use Rattle.dymosaw.specs.contracts.read.valid_table as valid-table
use Rattle.dymosaw.proofs.read.valid_table.Reads as valid-table-reads
use Rattle.dymosaw.specs.contracts.read.origin_host as origin-host
use Rattle.dymosaw.proofs.read.origin_host.Reads as origin-host-reads
use Rattle.dymosaw.specs.contracts.one_avp.read_avp as read-avp
use Rattle.dymosaw.proofs.one_avp.read_avp.Reads as read-avp-reads
use Rattle.dymosaw.specs.contracts.one_avp.write_avp as write-avp
use Rattle.dymosaw.proofs.one_avp.write_avp.Reads as write-avp-reads
use Rattle.promises.specs.Calls.{ServeCall, RequestCall, CorrectCall, EntryCall, ReadCall, ValidCall, HostCall, ReadAvpCall, WriteAvpCall}

-- the buffers and names of a call for a request
abbrev given : (κs : Lfts 6) → ArgsD serve.signature κs → Lent
given κs a = lent a.0.now a.1.0.now a.1.1.0.now a.1.1.1.0.now a.1.1.1.1.0.now a.1.1.1.1.1.0.now

pub serve_call : (κs : Lfts 6) (a : ArgsD serve.signature κs) (z : ResD serve.signature κs) (e : AtExit serve.ended κs) → serve-reads.Learnt κs a z e → ServeCall
serve_call κs a z e learnt =
    record { given = given κs a; bytes = learnt.1; result = z; table = e.0.now; answer = e.1.1.1.1.0.now; cancel = e.1.1.1.1.1.0.now; met = learnt.0 }

pub request_call : (κs : Lfts 6) (a : ArgsD request.signature κs) (z : ResD request.signature κs) (e : AtExit request.ended κs) → request-reads.Learnt κs a z e → RequestCall
request_call κs a z e learnt =
    record { given = given κs a; bytes = learnt.1; result = z; table = e.0.now; answer = e.1.1.1.1.0.now; cancel = e.1.1.1.1.1.0.now; met = learnt.0 }

pub correct_call : (κs : Lfts 2) (a : ArgsD correct.signature κs) (z : ResD correct.signature κs) (e : AtExit correct.ended κs) → correct-reads.Learnt κs a z e → CorrectCall
correct_call κs a z e learnt = record { table = a.0.now; frame = a.1.0.now; result = z; after = e.0.now; met = learnt }

pub entry_call : (κs : Lfts 2) (a : ArgsD entry.signature κs) (z : ResD entry.signature κs) (e : AtExit entry.ended κs) → entry-reads.Learnt κs a z e → EntryCall
entry_call κs a z e learnt = record { table = a.0.now; frame = a.1.0.now; result = z; after = e.0.now; met = learnt }

pub read_call : (κs : Lfts 1) (a : ArgsD read.signature κs) (z : ResD read.signature κs) (e : AtExit read.ended κs) → read-reads.Learnt κs a z e → ReadCall
read_call κs a z e learnt = record { message = a.0.now; result = z; met = learnt }

pub valid_call : (κs : Lfts 1) (a : ArgsD valid-table.signature κs) (z : ResD valid-table.signature κs) (e : AtExit valid-table.ended κs) → valid-table-reads.Learnt κs a z e → ValidCall
valid_call κs a z e learnt = record { table = a.0.now; result = z; met = learnt }

pub host_call : (κs : Lfts 1) (a : ArgsD origin-host.signature κs) (z : ResD origin-host.signature κs) (e : AtExit origin-host.ended κs) → origin-host-reads.Learnt κs a z e → HostCall
host_call κs a z e learnt = record { message = a.0.now; result = z.now; met = learnt }

pub read-avp_call : (κs : Lfts 1) (a : ArgsD read-avp.signature κs) (z : ResD read-avp.signature κs) (e : AtExit read-avp.ended κs) → read-avp-reads.Learnt κs a z e → ReadAvpCall
read-avp_call κs a z e learnt = record { stretch = a.0.now; bytes = learnt.1; at = a.1.0; result = z; met = learnt.0 }

pub write_avp_call : (κs : Lfts 2) (a : ArgsD write-avp.signature κs) (z : ResD write-avp.signature κs) (e : AtExit write-avp.ended κs) → write-avp-reads.Learnt κs a z e → WriteAvpCall
write_avp_call κs a z e learnt =
    record {
      out = a.0.now;
      at = a.1.0;
      vendor = a.1.1.0;
      code = a.1.1.1.0;
      mandatory = a.1.1.1.1.0;
      body = a.1.1.1.1.1.0.now;
      result = z;
      after = e.0.now;
      met = learnt;
    }
