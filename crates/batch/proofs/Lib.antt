mod Admitted
mod Alone
mod Counts
mod Joining
mod Stepping
mod Sums
mod Telling
