mod Documents
mod Decimals
mod Printed
mod SiafundTables
