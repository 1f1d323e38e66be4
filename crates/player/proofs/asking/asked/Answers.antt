use Rattle.player.proofs.AskingLaws.{asks, invoke_request, result_request, error_request}
use Rattle.player.proofs.asking.asked.Goals as goal

pub returns-in_ok-operation-in-Invoke : goal.returns-in_ok-operation-in-Invoke
returns-in_ok-operation-in-Invoke c =
    asks _ _ _ _ _ _ _ _ _ _
    (invoke_request _ _ c.parse-said.ensures c.in-Invoke.id c.in-Invoke.linked c.in-Invoke.code c.in_ok-operation-in-Invoke.operation c.in-Invoke.value c.peer_link-link.result _ _ (cc) c.in_ok-operation-in-Invoke.was c.peer_link-link.ensures c.value_octets-given.ensures c.requires)
    c.invoke-r.ensures

pub returns-in-Result : goal.returns-in-Result
returns-in-Result c =
    asks _ _ _ _ _ _ _ _ _ _
    (result_request _ _ c.parse-said.ensures c.in-Result.id c.in-Result.body _ _ _ (cc) (c.body_value.ensures _) c.value_octets-given-in-Result.ensures c.requires)
    c.result-r.ensures

pub returns-in_ok-error-in-Error : goal.returns-in_ok-error-in-Error
returns-in_ok-error-in-Error c =
    asks _ _ _ _ _ _ _ _ _ _
    (error_request _ _ c.parse-said.ensures c.in-Error.id c.in-Error.code c.in_ok-error-in-Error.error c.in-Error.value _ _ (cc) c.in_ok-error-in-Error.was c.value_octets-given-in-Error.ensures c.requires)
    c.error-r.ensures
