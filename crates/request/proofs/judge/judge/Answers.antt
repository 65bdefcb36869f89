-- `request::judge::judge` meets its contract: behind each test that is fine those that are left of the chain decide. Assumes nothing.
use mathlib.Core.Path.{sym}
use Rattle.std.proofs.lemmas.Result.{err_from_is_err_and}
use Rattle.request.proofs.ChainLaws.{goes_on_lem, stops, ends}
use Rattle.request.proofs.JudgeLaws.{visit-told, judged}
use Rattle.request.proofs.judge.judge.Goals as goal

pub returns-in_err-judge_header : goal.returns-in_err-judge_header
returns-in_err-judge_header c =
    let p = err_from_is_err_and c.from_residual.result c.from_residual.ensures.1 in
    rw (p.1, p.2) (judged _ (stops _ c.in_err-judge_header.ensures))

pub returns-in_err-fault_test : goal.returns-in_err-fault_test
returns-in_err-fault_test c =
    let p = err_from_is_err_and c.from_residual-in_err-fault_test.result c.from_residual-in_err-fault_test.ensures.1 in
    let noted = c.args.noted.now in
    let told = visit-told _ c.visit-visit.ensures in
    rw (p.1, p.2) (judged _ (goes_on_lem _ c.in_ok-judge_header.ensures (stops _ (c.in_err-fault_test.ensures _ noted.whole told))))

pub returns-in_err-application_test : goal.returns-in_err-application_test
returns-in_err-application_test c =
    let p = err_from_is_err_and c.from_residual-in_err-application_test.result c.from_residual-in_err-application_test.ensures.1 in
    let noted = c.args.noted.now in
    let told = visit-told _ c.visit-visit.ensures in
    rw (p.1, p.2) (judged _ (goes_on_lem _ c.in_ok-judge_header.ensures (goes_on_lem _ (c.in_ok-fault_test.ensures _ noted.whole told) (stops _ (c.in_err-application_test.ensures _ noted.read)))))

pub returns-in_err-command_test : goal.returns-in_err-command_test
returns-in_err-command_test c =
    let p = err_from_is_err_and c.from_residual-in_err-command_test.result c.from_residual-in_err-command_test.ensures.1 in
    let noted = c.args.noted.now in
    let told = visit-told _ c.visit-visit.ensures in
    rw (p.1, p.2) (judged _ (goes_on_lem _ c.in_ok-judge_header.ensures (goes_on_lem _ (c.in_ok-fault_test.ensures _ noted.whole told) (goes_on_lem _ (c.in_ok-application_test.ensures _ noted.read) (stops _ (c.in_err-command_test.ensures _ noted.own))))))

pub returns-in_err-unsupported_test : goal.returns-in_err-unsupported_test
returns-in_err-unsupported_test c =
    let p = err_from_is_err_and c.from_residual-in_err-unsupported_test.result c.from_residual-in_err-unsupported_test.ensures.1 in
    let noted = c.args.noted.now in
    let told = visit-told _ c.visit-visit.ensures in
    rw (p.1, p.2) (judged _ (goes_on_lem _ c.in_ok-judge_header.ensures (goes_on_lem _ (c.in_ok-fault_test.ensures _ noted.whole told) (goes_on_lem _ (c.in_ok-application_test.ensures _ noted.read) (goes_on_lem _ (c.in_ok-command_test.ensures _ noted.own) (stops _ (c.in_err-unsupported_test.ensures _ noted.whole told (sym (c.in_ok-fault_test.ensures _ noted.whole told).same))))))))

pub returns-in_err-repeated_test : goal.returns-in_err-repeated_test
returns-in_err-repeated_test c =
    let p = err_from_is_err_and c.from_residual-in_err-repeated_test.result c.from_residual-in_err-repeated_test.ensures.1 in
    let noted = c.args.noted.now in
    let told = visit-told _ c.visit-visit.ensures in
    rw (p.1, p.2) (judged _ (goes_on_lem _ c.in_ok-judge_header.ensures (goes_on_lem _ (c.in_ok-fault_test.ensures _ noted.whole told) (goes_on_lem _ (c.in_ok-application_test.ensures _ noted.read) (goes_on_lem _ (c.in_ok-command_test.ensures _ noted.own) (goes_on_lem _ (c.in_ok-unsupported_test.ensures _ noted.whole told (sym (c.in_ok-fault_test.ensures _ noted.whole told).same)) (stops _ c.in_err-repeated_test.ensures)))))))

pub returns-in_err-absent_test : goal.returns-in_err-absent_test
returns-in_err-absent_test c =
    let p = err_from_is_err_and c.from_residual-in_err-absent_test.result c.from_residual-in_err-absent_test.ensures.1 in
    let noted = c.args.noted.now in
    let told = visit-told _ c.visit-visit.ensures in
    rw (p.1, p.2) (judged _ (goes_on_lem _ c.in_ok-judge_header.ensures (goes_on_lem _ (c.in_ok-fault_test.ensures _ noted.whole told) (goes_on_lem _ (c.in_ok-application_test.ensures _ noted.read) (goes_on_lem _ (c.in_ok-command_test.ensures _ noted.own) (goes_on_lem _ (c.in_ok-unsupported_test.ensures _ noted.whole told (sym (c.in_ok-fault_test.ensures _ noted.whole told).same)) (goes_on_lem _ c.in_ok-repeated_test.ensures (stops _ c.in_err-absent_test.ensures))))))))

pub returns : goal.returns
returns c =
    let noted = c.args.noted.now in
    let told = visit-told _ c.visit-visit.ensures in
    judged _ (goes_on_lem _ c.in_ok-judge_header.ensures (goes_on_lem _ (c.in_ok-fault_test.ensures _ noted.whole told) (goes_on_lem _ (c.in_ok-application_test.ensures _ noted.read) (goes_on_lem _ (c.in_ok-command_test.ensures _ noted.own) (goes_on_lem _ (c.in_ok-unsupported_test.ensures _ noted.whole told (sym (c.in_ok-fault_test.ensures _ noted.whole told).same)) (goes_on_lem _ c.in_ok-repeated_test.ensures (goes_on_lem _ c.in_ok-absent_test.ensures (ends c.values_test.ensures))))))))
