-- The application: its number, its commands, and the AVPs that each command requires and uses (01, "Refusals with an answer"). Data, in one place.
-- Assumes nothing.
use Rattle.std.specs.Prelude.{cond, List, [], ◌∷◌, ◌++◌, ℕ, eqb}
use Rattle.std.proofs.Math.Option.{Option, none, some}

-- an AVP's key
pub record Key : Type 0 where
  pub vendor : ℕ
  pub code : ℕ

abbrev pub key : ℕ → ℕ → Key
key vendor code = record { vendor = vendor; code = code }

abbrev pub base : ℕ → Key
base code = record { vendor = 0; code = code }

-- vendor 10415 is 3GPP
abbrev pub vendor3gpp : ℕ
vendor3gpp = 10415

abbrev pub tgpp : ℕ → Key
tgpp code = record { vendor = vendor3gpp; code = code }

-- ---- the AVPs that a request or an answer holds, by their names

abbrev pub user_name : Key
user_name = base 1

abbrev pub session_id : Key
session_id = base 263

abbrev pub origin_host : Key
origin_host = base 264

abbrev pub vendor_id : Key
vendor_id = base 266

abbrev pub result_code : Key
result_code = base 268

abbrev pub auth_session_state : Key
auth_session_state = base 277

abbrev pub failed_avp : Key
failed_avp = base 279

abbrev pub destination_realm : Key
destination_realm = base 283

abbrev pub proxy_info : Key
proxy_info = base 284

abbrev pub origin_realm : Key
origin_realm = base 296

abbrev pub experimental_result : Key
experimental_result = base 297

abbrev pub experimental_result_code : Key
experimental_result_code = base 298

abbrev pub bandwidth_downlink : Key
bandwidth_downlink = tgpp 515

abbrev pub bandwidth_uplink : Key
bandwidth_uplink = tgpp 516

abbrev pub rat_type : Key
rat_type = tgpp 1032

abbrev pub subscription_data : Key
subscription_data = tgpp 1400

abbrev pub terminal_information : Key
terminal_information = tgpp 1401

abbrev pub imei : Key
imei = tgpp 1402

abbrev pub ulr_flags : Key
ulr_flags = tgpp 1405

abbrev pub ula_flags : Key
ula_flags = tgpp 1406

abbrev pub visited_plmn_id : Key
visited_plmn_id = tgpp 1407

abbrev pub subscriber_status : Key
subscriber_status = tgpp 1424

abbrev pub access_restriction_data : Key
access_restriction_data = tgpp 1426

abbrev pub ambr : Key
ambr = tgpp 1435

abbrev pub pua_flags : Key
pua_flags = tgpp 1442

abbrev pub nor_flags : Key
nor_flags = tgpp 1443

abbrev pub pur_flags : Key
pur_flags = tgpp 1635

-- ---- the application and its commands

-- "application not 16777251"
abbrev pub application : ℕ
application = 16777251

abbrev pub ulr : ℕ
ulr = 316

abbrev pub pur : ℕ
pur = 321

abbrev pub nor : ℕ
nor = 323

-- "Required: Session-Id, Auth-Session-State (any value), Origin-Host, Origin-Realm, Destination-Realm, User-Name"
abbrev pub common : List Key
common = session_id ∷ auth_session_state ∷ origin_host ∷ origin_realm ∷ destination_realm ∷ user_name ∷ []

pub record Command : Type 0 where
  pub code : ℕ
  pub required : List Key  -- in the order of 5005
  pub optional : List Key  -- "Used when there", Proxy-Info apart

-- "for ULR also RAT-Type, ULR-Flags, Visited-PLMN-Id. Used when there: [..] PUR-Flags in PUR; NOR-Flags in NOR; Terminal-Information in ULR and NOR, and its IMEI"
unfoldable pub commands : List Command
commands =
    record { code = ulr; required = common ++ (rat_type ∷ ulr_flags ∷ visited_plmn_id ∷ []); optional = terminal_information ∷ [] } ∷
    record { code = pur; required = common; optional = pur_flags ∷ [] } ∷
    record { code = nor; required = common; optional = nor_flags ∷ terminal_information ∷ [] } ∷
    []

unfoldable pub command_in : List Command → ℕ → Option Command
command_in [] code = none
command_in (c ∷ cs) code = cond (eqb c.code code) (some c) (command_in cs code)

-- the command with this code
unfoldable pub command_of : ℕ → Option Command
command_of code = command_in commands code
