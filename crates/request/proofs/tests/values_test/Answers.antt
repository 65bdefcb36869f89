-- `request::tests::values_test` meets its contract. Each value is judged where it was found; the chain goes on where it is right. Assumes nothing.
use Rattle.std.proofs.lemmas.Result.{err_from_is_err_and}
use Rattle.paper.specs.Request.{values_test, imsi_digits, is_name, three_bytes, imei_digits}
use Rattle.request.proofs.TestLaws.{value_answers}
use Rattle.request.proofs.ChainLaws.{goes_on_lem, stops, ends}
use Rattle.request.proofs.tests.values_test.Goals as goal

pub returns-in_err-value_test : goal.returns-in_err-value_test
unfolding values_test
returns-in_err-value_test c =
    let p = err_from_is_err_and c.from_residual.result c.from_residual.ensures.1 in
    rw (p.1, p.2) (stops _ (value_answers _ _ c.find_used-user_name.ensures imsi_digits c.data_of.ensures c.is_imsi.ensures c.in_err-value_test.ensures))

pub returns-in_err-value_test-2 : goal.returns-in_err-value_test-2
unfolding values_test
returns-in_err-value_test-2 c =
    let p = err_from_is_err_and c.from_residual-in_err-value_test-2.result c.from_residual-in_err-value_test-2.ensures.1 in
    rw (p.1, p.2) (goes_on_lem _ (value_answers _ _ c.find_used-user_name.ensures imsi_digits c.data_of.ensures c.is_imsi.ensures c.in_ok-value_test.ensures) (stops _ (value_answers _ _ c.find_used-origin_host.ensures is_name c.data_of-2.ensures c.is_name.ensures c.in_err-value_test-2.ensures)))

pub returns-in_err-value_test-3 : goal.returns-in_err-value_test-3
unfolding values_test
returns-in_err-value_test-3 c =
    let p = err_from_is_err_and c.from_residual-in_err-value_test-3.result c.from_residual-in_err-value_test-3.ensures.1 in
    rw (p.1, p.2) (goes_on_lem _ (value_answers _ _ c.find_used-user_name.ensures imsi_digits c.data_of.ensures c.is_imsi.ensures c.in_ok-value_test.ensures) (goes_on_lem _ (value_answers _ _ c.find_used-origin_host.ensures is_name c.data_of-2.ensures c.is_name.ensures c.in_ok-value_test-2.ensures) (stops _ (value_answers _ _ c.find_used-visited_plmn.ensures three_bytes c.data_of-3.ensures c.is_plmn.ensures c.in_err-value_test-3.ensures))))

pub returns : goal.returns
unfolding values_test
returns c =
    goes_on_lem _ (value_answers _ _ c.find_used-user_name.ensures imsi_digits c.data_of.ensures c.is_imsi.ensures c.in_ok-value_test.ensures) (goes_on_lem _ (value_answers _ _ c.find_used-origin_host.ensures is_name c.data_of-2.ensures c.is_name.ensures c.in_ok-value_test-2.ensures) (goes_on_lem _ (value_answers _ _ c.find_used-visited_plmn.ensures three_bytes c.data_of-3.ensures c.is_plmn.ensures c.in_ok-value_test-3.ensures) (ends (value_answers _ _ c.find_imei-imei.ensures imei_digits c.data_of-4.ensures c.is_imei.ensures c.value_test-4.ensures))))
