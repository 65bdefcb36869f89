-- The frozen list of docs/DICTIONARY.md: every row of TS 29.272 clause 7.3.1 (its own and its reused AVPs) and of RFC 6733 section 4.5, and no other.
-- From it the keys in their order, and the kind of an AVP.
use Rattle.std.specs.Prelude.{Bool, true, cond, ◌&&◌, List, [], ◌∷◌, ℕ, ◌+◌, ◌*◌, eqb, ltb}
use Rattle.dictionary.specs.declared.Kind.{Kind}
use Rattle.dictionary.specs.declared.Kind.TheVariants.{Four, Eight, Any, Group, Closed, Unknown}
use Rattle.dictionary.specs.declared.Row.{Row}

abbrev pub row : ℕ → ℕ → Kind → Row
row v c k = record { key = record { vendor = v; code = c }; kind = k }

-- "An AVP's key is (vendor, code)": one number, ordered by vendor and then by code
unfoldable pub key_of : ℕ → ℕ → ℕ
key_of vendor code = vendor * 4294967296 + code

unfoldable pub keys_of : List Row → List ℕ
keys_of [] = []
keys_of (r ∷ rs) = key_of r.key.vendor r.key.code ∷ keys_of rs

-- each number is above the one before it, the first above b
unfoldable pub rising : ℕ → List ℕ → Bool
rising b [] = true
rising b (x ∷ xs) = ltb b x && rising x xs

-- the kind of the first row with this key, if there is one
unfoldable pub kind_with : ℕ → List Row → Kind
kind_with k [] = Unknown
kind_with k (r ∷ rs) = cond (eqb (key_of r.key.vendor r.key.code) k) r.kind (kind_with k rs)

unfoldable pub kind_in : List Row → ℕ → ℕ → Kind
kind_in rs vendor code = kind_with (key_of vendor code) rs

-- vendor, code and kind of each AVP
unfoldable pub rows : List Row
rows =
    row 0 1 Any ∷  -- User-Name, UTF8String
    row 0 25 Any ∷  -- Class, OctetString
    row 0 27 Four ∷  -- Session-Timeout, Unsigned32
    row 0 33 Any ∷  -- Proxy-State, OctetString
    row 0 44 Any ∷  -- Acct-Session-Id, OctetString
    row 0 50 Any ∷  -- Acct-Multi-Session-Id, UTF8String
    row 0 55 Four ∷  -- Event-Timestamp, Time
    row 0 85 Four ∷  -- Acct-Interim-Interval, Unsigned32
    row 0 257 Any ∷  -- Host-IP-Address, Address
    row 0 258 Four ∷  -- Auth-Application-Id, Unsigned32
    row 0 259 Four ∷  -- Acct-Application-Id, Unsigned32
    row 0 260 Group ∷  -- Vendor-Specific-Application-Id, Grouped
    row 0 261 Four ∷  -- Redirect-Host-Usage, Enumerated
    row 0 262 Four ∷  -- Redirect-Max-Cache-Time, Unsigned32
    row 0 263 Any ∷  -- Session-Id, UTF8String
    row 0 264 Any ∷  -- Origin-Host, DiameterIdentity
    row 0 265 Four ∷  -- Supported-Vendor-Id, Unsigned32
    row 0 266 Four ∷  -- Vendor-Id, Unsigned32
    row 0 267 Four ∷  -- Firmware-Revision, Unsigned32
    row 0 268 Four ∷  -- Result-Code, Unsigned32
    row 0 269 Any ∷  -- Product-Name, UTF8String
    row 0 270 Four ∷  -- Session-Binding, Unsigned32
    row 0 271 Four ∷  -- Session-Server-Failover, Enumerated
    row 0 272 Four ∷  -- Multi-Round-Time-Out, Unsigned32
    row 0 273 Four ∷  -- Disconnect-Cause, Enumerated
    row 0 274 Four ∷  -- Auth-Request-Type, Enumerated
    row 0 276 Four ∷  -- Auth-Grace-Period, Unsigned32
    row 0 277 Four ∷  -- Auth-Session-State, Enumerated
    row 0 278 Four ∷  -- Origin-State-Id, Unsigned32
    row 0 279 Closed ∷  -- Failed-AVP, Grouped
    row 0 280 Any ∷  -- Proxy-Host, DiameterIdentity
    row 0 281 Any ∷  -- Error-Message, UTF8String
    row 0 282 Any ∷  -- Route-Record, DiameterIdentity
    row 0 283 Any ∷  -- Destination-Realm, DiameterIdentity
    row 0 284 Closed ∷  -- Proxy-Info, Grouped
    row 0 285 Four ∷  -- Re-Auth-Request-Type, Enumerated
    row 0 287 Eight ∷  -- Accounting-Sub-Session-Id, Unsigned64
    row 0 291 Four ∷  -- Authorization-Lifetime, Unsigned32
    row 0 292 Any ∷  -- Redirect-Host, DiameterURI
    row 0 293 Any ∷  -- Destination-Host, DiameterIdentity
    row 0 294 Any ∷  -- Error-Reporting-Host, DiameterIdentity
    row 0 295 Four ∷  -- Termination-Cause, Enumerated
    row 0 296 Any ∷  -- Origin-Realm, DiameterIdentity
    row 0 297 Group ∷  -- Experimental-Result, Grouped
    row 0 298 Four ∷  -- Experimental-Result-Code, Unsigned32
    row 0 299 Four ∷  -- Inband-Security-Id, Unsigned32
    row 0 301 Four ∷  -- DRMP, Enumerated
    row 0 334 Any ∷  -- MIP-Home-Agent-Address, Address
    row 0 348 Group ∷  -- MIP-Home-Agent-Host, Grouped
    row 0 480 Four ∷  -- Accounting-Record-Type, Enumerated
    row 0 483 Four ∷  -- Accounting-Realtime-Required, Enumerated
    row 0 485 Four ∷  -- Accounting-Record-Number, Unsigned32
    row 0 486 Group ∷  -- MIP6-Agent-Info, Grouped
    row 0 493 Any ∷  -- Service-Selection, UTF8String
    row 0 621 Group ∷  -- OC-Supported-Features, Grouped
    row 0 623 Group ∷  -- OC-OLR, Grouped
    row 0 650 Group ∷  -- Load, Grouped
    row 10415 13 Any ∷  -- 3GPP-Charging-Characteristics, UTF8String
    row 10415 515 Four ∷  -- Max-Requested-Bandwidth-DL, Unsigned32
    row 10415 516 Four ∷  -- Max-Requested-Bandwidth-UL, Unsigned32
    row 10415 554 Four ∷  -- Extended-Max-Requested-BW-DL, Unsigned32
    row 10415 555 Four ∷  -- Extended-Max-Requested-BW-UL, Unsigned32
    row 10415 600 Any ∷  -- Visited-Network-Identifier, OctetString
    row 10415 625 Any ∷  -- Confidentiality-Key, OctetString
    row 10415 626 Any ∷  -- Integrity-Key, OctetString
    row 10415 628 Group ∷  -- Supported-Features, Grouped
    row 10415 629 Four ∷  -- Feature-List-ID, Unsigned32
    row 10415 630 Four ∷  -- Feature-List, Unsigned32
    row 10415 701 Any ∷  -- MSISDN, OctetString
    row 10415 848 Any ∷  -- Served-Party-IP-Address, Address
    row 10415 857 Any ∷  -- Charged-Party, UTF8String
    row 10415 1028 Four ∷  -- QoS-Class-Identifier, Enumerated
    row 10415 1032 Four ∷  -- RAT-Type, Enumerated
    row 10415 1034 Group ∷  -- Allocation-Retention-Priority, Grouped
    row 10415 1046 Four ∷  -- Priority-Level, Unsigned32
    row 10415 1047 Four ∷  -- Pre-emption-Capability, Enumerated
    row 10415 1048 Four ∷  -- Pre-emption-Vulnerability, Enumerated
    row 10415 1227 Any ∷  -- PDP-Address, Address
    row 10415 1400 Group ∷  -- Subscription-Data, Grouped
    row 10415 1401 Group ∷  -- Terminal-Information, Grouped
    row 10415 1402 Any ∷  -- IMEI, UTF8String
    row 10415 1403 Any ∷  -- Software-Version, UTF8String
    row 10415 1404 Any ∷  -- QoS-Subscribed, OctetString
    row 10415 1405 Four ∷  -- ULR-Flags, Unsigned32
    row 10415 1406 Four ∷  -- ULA-Flags, Unsigned32
    row 10415 1407 Any ∷  -- Visited-PLMN-Id, OctetString
    row 10415 1408 Group ∷  -- Requested-EUTRAN-Authentication-Info, Grouped
    row 10415 1409 Group ∷  -- Requested-UTRAN-GERAN-Authentication-Info, Grouped
    row 10415 1410 Four ∷  -- Number-Of-Requested-Vectors, Unsigned32
    row 10415 1411 Any ∷  -- Re-Synchronization-Info, OctetString
    row 10415 1412 Four ∷  -- Immediate-Response-Preferred, Unsigned32
    row 10415 1413 Group ∷  -- Authentication-Info, Grouped
    row 10415 1414 Group ∷  -- E-UTRAN-Vector, Grouped
    row 10415 1415 Group ∷  -- UTRAN-Vector, Grouped
    row 10415 1416 Group ∷  -- GERAN-Vector, Grouped
    row 10415 1417 Four ∷  -- Network-Access-Mode, Enumerated
    row 10415 1418 Four ∷  -- HPLMN-ODB, Unsigned32
    row 10415 1419 Four ∷  -- Item-Number, Unsigned32
    row 10415 1420 Four ∷  -- Cancellation-Type, Enumerated
    row 10415 1421 Four ∷  -- DSR-Flags, Unsigned32
    row 10415 1422 Four ∷  -- DSA-Flags, Unsigned32
    row 10415 1423 Four ∷  -- Context-Identifier, Unsigned32
    row 10415 1424 Four ∷  -- Subscriber-Status, Enumerated
    row 10415 1425 Four ∷  -- Operator-Determined-Barring, Unsigned32
    row 10415 1426 Four ∷  -- Access-Restriction-Data, Unsigned32
    row 10415 1427 Any ∷  -- APN-OI-Replacement, UTF8String
    row 10415 1428 Four ∷  -- All-APN-Configurations-Included-Indicator, Enumerated
    row 10415 1429 Group ∷  -- APN-Configuration-Profile, Grouped
    row 10415 1430 Group ∷  -- APN-Configuration, Grouped
    row 10415 1431 Group ∷  -- EPS-Subscribed-QoS-Profile, Grouped
    row 10415 1432 Four ∷  -- VPLMN-Dynamic-Address-Allowed, Enumerated
    row 10415 1433 Any ∷  -- STN-SR, OctetString
    row 10415 1434 Four ∷  -- Alert-Reason, Enumerated
    row 10415 1435 Group ∷  -- AMBR, Grouped
    row 10415 1436 Group ∷  -- CSG-Subscription-Data, Grouped
    row 10415 1437 Four ∷  -- CSG-Id, Unsigned32
    row 10415 1438 Four ∷  -- PDN-GW-Allocation-Type, Enumerated
    row 10415 1439 Four ∷  -- Expiration-Date, Time
    row 10415 1440 Four ∷  -- RAT-Frequency-Selection-Priority-ID, Unsigned32
    row 10415 1441 Four ∷  -- IDA-Flags, Unsigned32
    row 10415 1442 Four ∷  -- PUA-Flags, Unsigned32
    row 10415 1443 Four ∷  -- NOR-Flags, Unsigned32
    row 10415 1444 Any ∷  -- User-Id, UTF8String
    row 10415 1445 Four ∷  -- Equipment-Status, Enumerated
    row 10415 1446 Any ∷  -- Regional-Subscription-Zone-Code, OctetString
    row 10415 1447 Any ∷  -- RAND, OctetString
    row 10415 1448 Any ∷  -- XRES, OctetString
    row 10415 1449 Any ∷  -- AUTN, OctetString
    row 10415 1450 Any ∷  -- KASME, OctetString
    row 10415 1452 Any ∷  -- Trace-Collection-Entity, Address
    row 10415 1453 Any ∷  -- Kc, OctetString
    row 10415 1454 Any ∷  -- SRES, OctetString
    row 10415 1456 Four ∷  -- PDN-Type, Enumerated
    row 10415 1457 Four ∷  -- Roaming-Restricted-Due-To-Unsupported-Feature, Enumerated
    row 10415 1458 Group ∷  -- Trace-Data, Grouped
    row 10415 1459 Any ∷  -- Trace-Reference, OctetString
    row 10415 1462 Four ∷  -- Trace-Depth, Enumerated
    row 10415 1463 Any ∷  -- Trace-NE-Type-List, OctetString
    row 10415 1464 Any ∷  -- Trace-Interface-List, OctetString
    row 10415 1465 Any ∷  -- Trace-Event-List, OctetString
    row 10415 1466 Any ∷  -- OMC-Id, OctetString
    row 10415 1467 Group ∷  -- GPRS-Subscription-Data, Grouped
    row 10415 1468 Four ∷  -- Complete-Data-List-Included-Indicator, Enumerated
    row 10415 1469 Group ∷  -- PDP-Context, Grouped
    row 10415 1470 Any ∷  -- PDP-Type, OctetString
    row 10415 1471 Any ∷  -- 3GPP2-MEID, OctetString
    row 10415 1472 Group ∷  -- Specific-APN-Info, Grouped
    row 10415 1473 Group ∷  -- LCS-Info, Grouped
    row 10415 1474 Any ∷  -- GMLC-Number, OctetString
    row 10415 1475 Group ∷  -- LCS-PrivacyException, Grouped
    row 10415 1476 Any ∷  -- SS-Code, OctetString
    row 10415 1477 Any ∷  -- SS-Status, OctetString
    row 10415 1478 Four ∷  -- Notification-To-UE-User, Enumerated
    row 10415 1479 Group ∷  -- External-Client, Grouped
    row 10415 1480 Any ∷  -- Client-Identity, OctetString
    row 10415 1481 Four ∷  -- GMLC-Restriction, Enumerated
    row 10415 1482 Four ∷  -- PLMN-Client, Enumerated
    row 10415 1483 Group ∷  -- Service-Type, Grouped
    row 10415 1484 Four ∷  -- ServiceTypeIdentity, Unsigned32
    row 10415 1485 Group ∷  -- MO-LR, Grouped
    row 10415 1486 Group ∷  -- Teleservice-List, Grouped
    row 10415 1487 Any ∷  -- TS-Code, OctetString
    row 10415 1488 Group ∷  -- Call-Barring-Info, Grouped
    row 10415 1489 Any ∷  -- SGSN-Number, OctetString
    row 10415 1490 Four ∷  -- IDR-Flags, Unsigned32
    row 10415 1491 Four ∷  -- ICS-Indicator, Enumerated
    row 10415 1492 Four ∷  -- IMS-Voice-Over-PS-Sessions-Supported, Enumerated
    row 10415 1493 Four ∷  -- Homogeneous-Support-of-IMS-Voice-Over-PS-Sessions, Enumerated
    row 10415 1494 Four ∷  -- Last-UE-Activity-Time, Time
    row 10415 1495 Group ∷  -- EPS-User-State, Grouped
    row 10415 1496 Group ∷  -- EPS-Location-Information, Grouped
    row 10415 1497 Group ∷  -- MME-User-State, Grouped
    row 10415 1498 Group ∷  -- SGSN-User-State, Grouped
    row 10415 1499 Four ∷  -- User-State, Enumerated
    row 10415 1538 Four ∷  -- Emergency-Services, Unsigned32
    row 10415 1600 Group ∷  -- MME-Location-Information, Grouped
    row 10415 1601 Group ∷  -- SGSN-Location-Information, Grouped
    row 10415 1602 Any ∷  -- E-UTRAN-Cell-Global-Identity, OctetString
    row 10415 1603 Any ∷  -- Tracking-Area-Identity, OctetString
    row 10415 1604 Any ∷  -- Cell-Global-Identity, OctetString
    row 10415 1605 Any ∷  -- Routing-Area-Identity, OctetString
    row 10415 1606 Any ∷  -- Location-Area-Identity, OctetString
    row 10415 1607 Any ∷  -- Service-Area-Identity, OctetString
    row 10415 1608 Any ∷  -- Geographical-Information, OctetString
    row 10415 1609 Any ∷  -- Geodetic-Information, OctetString
    row 10415 1610 Four ∷  -- Current-Location-Retrieved, Enumerated
    row 10415 1611 Four ∷  -- Age-Of-Location-Information, Unsigned32
    row 10415 1612 Group ∷  -- Active-APN, Grouped
    row 10415 1613 Four ∷  -- SIPTO-Permission, Enumerated
    row 10415 1614 Four ∷  -- Error-Diagnostic, Enumerated
    row 10415 1615 Four ∷  -- UE-SRVCC-Capability, Enumerated
    row 10415 1616 Four ∷  -- MPS-Priority, Unsigned32
    row 10415 1617 Four ∷  -- VPLMN-LIPA-Allowed, Enumerated
    row 10415 1618 Four ∷  -- LIPA-Permission, Enumerated
    row 10415 1619 Four ∷  -- Subscribed-Periodic-RAU-TAU-Timer, Unsigned32
    row 10415 1620 Any ∷  -- Ext-PDP-Type, OctetString
    row 10415 1621 Any ∷  -- Ext-PDP-Address, Address
    row 10415 1622 Group ∷  -- MDT-Configuration, Grouped
    row 10415 1623 Four ∷  -- Job-Type, Enumerated
    row 10415 1624 Group ∷  -- Area-Scope, Grouped
    row 10415 1625 Four ∷  -- List-Of-Measurements, Unsigned32
    row 10415 1626 Four ∷  -- Reporting-Trigger, Unsigned32
    row 10415 1627 Four ∷  -- Report-Interval, Enumerated
    row 10415 1628 Four ∷  -- Report-Amount, Enumerated
    row 10415 1629 Four ∷  -- Event-Threshold-RSRP, Unsigned32
    row 10415 1630 Four ∷  -- Event-Threshold-RSRQ, Unsigned32
    row 10415 1631 Four ∷  -- Logging-Interval, Enumerated
    row 10415 1632 Four ∷  -- Logging-Duration, Enumerated
    row 10415 1633 Four ∷  -- Relay-Node-Indicator, Enumerated
    row 10415 1634 Four ∷  -- MDT-User-Consent, Enumerated
    row 10415 1635 Four ∷  -- PUR-Flags, Unsigned32
    row 10415 1636 Four ∷  -- Subscribed-VSRVCC, Enumerated
    row 10415 1637 Group ∷  -- Equivalent-PLMN-List, Grouped
    row 10415 1638 Four ∷  -- CLR-Flags, Unsigned32
    row 10415 1639 Four ∷  -- UVR-Flags, Unsigned32
    row 10415 1640 Four ∷  -- UVA-Flags, Unsigned32
    row 10415 1641 Group ∷  -- VPLMN-CSG-Subscription-Data, Grouped
    row 10415 1642 Any ∷  -- Time-Zone, UTF8String
    row 10415 1643 Any ∷  -- A-MSISDN, OctetString
    row 10415 1645 Any ∷  -- MME-Number-for-MT-SMS, OctetString
    row 10415 1648 Four ∷  -- SMS-Register-Request, Enumerated
    row 10415 1649 Group ∷  -- Local-Time-Zone, Grouped
    row 10415 1650 Four ∷  -- Daylight-Saving-Time, Enumerated
    row 10415 1654 Four ∷  -- Subscription-Data-Flags, Unsigned32
    row 10415 1655 Four ∷  -- Measurement-Period-LTE, Enumerated
    row 10415 1656 Four ∷  -- Measurement-Period-UMTS, Enumerated
    row 10415 1657 Four ∷  -- Collection-Period-RRM-LTE, Enumerated
    row 10415 1658 Four ∷  -- Collection-Period-RRM-UMTS, Enumerated
    row 10415 1659 Any ∷  -- Positioning-Method, OctetString
    row 10415 1660 Any ∷  -- Measurement-Quantity, OctetString
    row 10415 1661 Four ∷  -- Event-Threshold-Event-1F, Integer32
    row 10415 1662 Four ∷  -- Event-Threshold-Event-1I, Integer32
    row 10415 1663 Four ∷  -- Restoration-Priority, Unsigned32
    row 10415 1664 Any ∷  -- SGs-MME-Identity, UTF8String
    row 10415 1665 Four ∷  -- SIPTO-Local-Network-Permission, Unsigned32
    row 10415 1666 Any ∷  -- Coupled-Node-Diameter-ID, DiameterIdentity
    row 10415 1667 Group ∷  -- WLAN-offloadability, Grouped
    row 10415 1668 Four ∷  -- WLAN-offloadability-EUTRAN, Unsigned32
    row 10415 1669 Four ∷  -- WLAN-offloadability-UTRAN, Unsigned32
    row 10415 1670 Any ∷  -- Reset-ID, OctetString
    row 10415 1671 Any ∷  -- MDT-Allowed-PLMN-Id, OctetString
    row 10415 1672 Group ∷  -- Adjacent-PLMNs, Grouped
    row 10415 1673 Group ∷  -- Adjacent-Access-Restriction-Data, Grouped
    row 10415 1674 Four ∷  -- DL-Buffering-Suggested-Packet-Count, Integer32
    row 10415 1675 Group ∷  -- IMSI-Group-Id, Grouped
    row 10415 1676 Four ∷  -- Group-Service-Id, Unsigned32
    row 10415 1677 Any ∷  -- Group-PLMN-Id, OctetString
    row 10415 1678 Any ∷  -- Local-Group-Id, OctetString
    row 10415 1679 Four ∷  -- AIR-Flags, Unsigned32
    row 10415 1680 Four ∷  -- UE-Usage-Type, Unsigned32
    row 10415 1681 Four ∷  -- Non-IP-PDN-Type-Indicator, Enumerated
    row 10415 1682 Four ∷  -- Non-IP-Data-Delivery-Mechanism, Unsigned32
    row 10415 1683 Four ∷  -- Additional-Context-ID, Unsigned32
    row 10415 1684 Any ∷  -- SCEF-Realm, DiameterIdentity
    row 10415 1685 Group ∷  -- Subscription-Data-Deletion, Grouped
    row 10415 1686 Four ∷  -- Preferred-Data-Mode, Unsigned32
    row 10415 1687 Group ∷  -- Emergency-Info, Grouped
    row 10415 1688 Group ∷  -- V2X-Subscription-Data, Grouped
    row 10415 1689 Four ∷  -- V2X-Permission, Unsigned32
    row 10415 1690 Four ∷  -- PDN-Connection-Continuity, Unsigned32
    row 10415 1691 Group ∷  -- eDRX-Cycle-Length, Grouped
    row 10415 1692 Any ∷  -- eDRX-Cycle-Length-Value, OctetString
    row 10415 1693 Four ∷  -- UE-PC5-AMBR, Unsigned32
    row 10415 1694 Group ∷  -- MBSFN-Area, Grouped
    row 10415 1695 Four ∷  -- MBSFN-Area-ID, Unsigned32
    row 10415 1696 Four ∷  -- Carrier-Frequency, Unsigned32
    row 10415 1697 Four ∷  -- RDS-Indicator, Enumerated
    row 10415 1698 Four ∷  -- Service-Gap-Time, Unsigned32
    row 10415 1699 Four ∷  -- Aerial-UE-Subscription-Information, Unsigned32
    row 10415 1700 Eight ∷  -- Broadcast-Location-Assistance-Data-Types, Unsigned64
    row 10415 1701 Group ∷  -- Paging-Time-Window, Grouped
    row 10415 1702 Four ∷  -- Operation-Mode, Unsigned32
    row 10415 1703 Any ∷  -- Paging-Time-Window-Length, OctetString
    row 10415 1704 Four ∷  -- Core-Network-Restrictions, Unsigned32
    row 10415 1705 Group ∷  -- eDRX-Related-RAT, Grouped
    row 10415 1706 Four ∷  -- Interworking-5GS-Indicator, Enumerated
    row 10415 1707 Four ∷  -- Ethernet-PDN-Type-Indicator, Enumerated
    row 10415 1708 Four ∷  -- Subscribed-ARPI, Unsigned32
    row 10415 1709 Four ∷  -- IAB-Operation-Permission, Enumerated
    row 10415 1710 Group ∷  -- V2X-Subscription-Data-Nr, Grouped
    row 10415 1711 Group ∷  -- UE-PC5-QoS, Grouped
    row 10415 1712 Group ∷  -- PC5-QoS-Flow, Grouped
    row 10415 1713 Four ∷  -- 5QI, Integer32
    row 10415 1714 Group ∷  -- PC5-Flow-Bitrates, Grouped
    row 10415 1715 Four ∷  -- Guaranteed-Flow-Bitrates, Integer32
    row 10415 1716 Four ∷  -- Maximum-Flow-Bitrates, Integer32
    row 10415 1717 Four ∷  -- PC5-Range, Integer32
    row 10415 1718 Four ∷  -- PC5-Link-AMBR, Integer32
    row 10415 1719 Four ∷  -- Third-Context-Identifier, Unsigned32
    row 10415 2319 Group ∷  -- User-CSG-Information, Grouped
    row 10415 2405 Any ∷  -- GMLC-Address, Address
    row 10415 3111 Any ∷  -- External-Identifier, UTF8String
    row 10415 3113 Group ∷  -- AESE-Communication-Pattern, Grouped
    row 10415 3114 Group ∷  -- Communication-Pattern-Set, Grouped
    row 10415 3122 Group ∷  -- Monitoring-Event-Configuration, Grouped
    row 10415 3123 Group ∷  -- Monitoring-Event-Report, Grouped
    row 10415 3124 Four ∷  -- SCEF-Reference-ID, Unsigned32
    row 10415 3125 Any ∷  -- SCEF-ID, DiameterIdentity
    row 10415 3126 Four ∷  -- SCEF-Reference-ID-for-Deletion, Unsigned32
    row 10415 3127 Four ∷  -- Monitoring-Type, Unsigned32
    row 10415 3128 Four ∷  -- Maximum-Number-of-Reports, Unsigned32
    row 10415 3129 Group ∷  -- UE-Reachability-Configuration, Grouped
    row 10415 3130 Four ∷  -- Monitoring-Duration, Time
    row 10415 3132 Four ∷  -- Reachability-Type, Unsigned32
    row 10415 3134 Four ∷  -- Maximum-Response-Time, Unsigned32
    row 10415 3135 Group ∷  -- Location-Information-Configuration, Grouped
    row 10415 3140 Four ∷  -- Reachability-Information, Unsigned32
    row 10415 3142 Group ∷  -- Monitoring-Event-Config-Status, Grouped
    row 10415 3143 Group ∷  -- Supported-Services, Grouped
    row 10415 3144 Eight ∷  -- Supported-Monitoring-Events, Unsigned64
    row 10415 3148 Four ∷  -- Reference-ID-Validity-Time, Time
    row 10415 3162 Four ∷  -- Loss-Of-Connectivity-Reason, Unsigned32
    row 10415 3178 Group ∷  -- MTC-Provider-Info, Grouped
    row 10415 3180 Group ∷  -- PDN-Connectivity-Status-Configuration, Grouped
    row 10415 3181 Group ∷  -- PDN-Connectivity-Status-Report, Grouped
    row 10415 3183 Four ∷  -- Traffic-Profile, Unsigned32
    row 10415 3185 Four ∷  -- Battery-Indicator, Unsigned32
    row 10415 3186 Eight ∷  -- SCEF-Reference-ID-Ext, Unsigned64
    row 10415 3187 Eight ∷  -- SCEF-Reference-ID-for-Deletion-Ext, Unsigned64
    row 10415 3329 Four ∷  -- Maximum-UE-Availability-Time, Time
    row 10415 3701 Group ∷  -- ProSe-Subscription-Data, Grouped
    row 10415 4008 Any ∷  -- eNodeB-ID, OctetString
    row 10415 4013 Any ∷  -- Extended-eNodeB-ID, OctetString
    row 10415 4322 Group ∷  -- Idle-Status-Indication, Grouped
    row 10415 4324 Four ∷  -- Active-Time, Unsigned32
    []

unfoldable pub keys : List ℕ
keys = keys_of rows

-- the kind of an AVP
unfoldable pub kind_of : ℕ → ℕ → Kind
kind_of vendor code = kind_in rows vendor code
