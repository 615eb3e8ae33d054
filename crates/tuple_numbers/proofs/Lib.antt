mod Products
mod Rows
