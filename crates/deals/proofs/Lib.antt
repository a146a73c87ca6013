mod Claimed
